use Rattle.std.proofs.Common.{rules, sym, ap, subst, refl, false, Err, IsTrue}
use Rattle.ip_spec.specs.declared.command.LineFault.{LineFault}
use Rattle.ip_spec.specs.Line.{Reads, IsLineOf}
use Rattle.ip_script.proofs.LineLaw.{one_command}
use Rattle.ip_script.proofs.ReadLaw.{each_line}
use Rattle.ip_held.specs.Collecting.{phase_of}
use Rattle.ip_held.specs.Held.{image_records}
use Rattle.ip_held.specs.Work.{work_at}
use Rattle.ip_spec.specs.declared.met.Met.{Met}
use Rattle.ip_spec.specs.Step.{IsSwept}
use Rattle.ip_session.proofs.Asking.{lined_asked, lined_counts, nothing_spawned, none_counts, none_met}
use Rattle.ip_session.proofs.SessionLemmas.{line_refused, has_words}
use Rattle.ip_session.proofs.SessionGoes.{lined_ok, lined_cut, lined_bounded, bad_goes, refused_goes}
use Rattle.ip_session.proofs.ClearGoes.{lined_clear, quiet_clear}
use Rattle.ip_session.proofs.Placing.{lined_placed, quiet_placed}
use Rattle.ip_session.specs.Asking.{IsBoundedIn}
use Rattle.ip_session.specs.Placing.{PlacedIn}
use Rattle.ip_merge.specs.Rules.{IsDecisive}
use Rattle.ip_session.specs.Running.{IsKnown}
use Rattle.ip_session.specs.Session.{state_in, IsHeld}
use Rattle.ip_session.proofs.Running.{ends_more}
use Rattle.ip_spec.specs.declared.reply.Reply.{Reply}
use Rattle.ip_spec.specs.declared.command.Command.{Command}
use Rattle.ip_session.specs.Wanting.{MayWant}
use Rattle.ip_session.proofs.session.Session.step.Goals as goal

pub returns-in-Ok-clause-tables : goal.returns-in-Ok-clause-tables
returns-in-Ok-clause-tables g c = c.run.ensures.ran.runs.serving

pub returns-in-Ok-clause-goes : goal.returns-in-Ok-clause-goes
returns-in-Ok-clause-goes g c told decisive r v here = lined_ok _ _ _ c.args.self.now c.run.new.self c.met_only-self.result r v c.in-Ok.command c.args.line.now c.run.result c.in-Ok.ensures.reads
    (λ other spelled. one_command c.args.line.now other c.in-Ok.command spelled c.in-Ok.ensures.reads) (c.run.ensures.ran.runs.goes (told, decisive) r v here)

pub returns-in-Ok-clause-cut : goal.returns-in-Ok-clause-cut
returns-in-Ok-clause-cut g c told decisive r v here = lined_cut _ _ _ c.args.self.now c.run.new.self c.met_only-self.result r v c.in-Ok.command c.args.line.now c.run.result c.in-Ok.ensures.reads (c.run.ensures.ran.runs.cut (told, decisive) r v here)

pub returns-in-Err-Bad-clause-goes : goal.returns-in-Err-Bad-clause-goes
returns-in-Err-Bad-clause-goes g c told decisive r v here = bad_goes _ _ c.args.self.now c.met_only-self.result r v here c.args.line.now c.in-Err-Bad.at c.met_only-self.ensures
    (subst (λ (f : LineFault). Reads IsLineOf c.args.line.now (Err f)) c.in-Err-Bad.field-0-is c.in-Err-Bad.ensures.reads) (search rules)

pub returns-in-Err-Memory-clause-goes : goal.returns-in-Err-Memory-clause-goes
returns-in-Err-Memory-clause-goes g c told decisive r v here = refused_goes _ _ c.args.self.now c.refuse.new.met r v here c.args.line.now c.refuse.result c.refuse.ensures.met c.refuse.ensures.reply
    (line_refused (g.D.Decides.rule c.args.rules.now) r (phase_of c.args.self.now.store.held.collection) (work_at c.args.self.now.work v) c.args.line.now (each_line c.args.line.now) (has_words c.args.line.now c.in-Err-Memory.field-0 c.in-Err-Memory.field-0-is c.in-Err-Memory.ensures.one_word))

pub returns-in-Ok-clause-placed : goal.returns-in-Ok-clause-placed
returns-in-Ok-clause-placed g c told decisive r v here = lined_placed _ _ _ _ _ _ v c.in-Ok.command c.args.line.now c.run.result c.in-Ok.ensures.reads
    (λ other spelled. one_command c.args.line.now other c.in-Ok.command spelled c.in-Ok.ensures.reads) (c.run.ensures.ran.runs.placed (told, decisive) r v here)

pub returns-in-Err-Bad-clause-placed : goal.returns-in-Err-Bad-clause-placed
returns-in-Err-Bad-clause-placed g c told decisive r v here = quiet_placed _ _ _ _ _ _ v c.args.line.now (Reply.Bad c.in-Err-Bad.at) (λ command h. h) (λ command h. h) (λ l is. absurd (cc is)) tt refl

pub returns-in-Err-Memory-clause-placed : goal.returns-in-Err-Memory-clause-placed
returns-in-Err-Memory-clause-placed g c told decisive r v here =
    subst (PlacedIn (g.D.Decides.rule c.args.rules.now) (image_records here.holds) c.args.self.now.store.held.slot c.args.self.now.store.held.unswept c.args.self.now.store.held.slot (state_in c.args.self.now r v) v c.args.line.now) (sym c.refuse.ensures.reply) (quiet_placed _ _ _ _ _ _ v c.args.line.now Reply.Memory (λ command h. h) (λ command h. h) (λ l is. absurd (cc is)) tt refl)

pub returns-in-Ok-clause-bounded : goal.returns-in-Ok-clause-bounded
returns-in-Ok-clause-bounded g c told decisive r v here look = lined_bounded here.holds.stands.standing.records c.args.self.now.store.held.collection c.in-Ok.command c.args.line.now c.run.result
    (λ other spelled. one_command c.args.line.now other c.in-Ok.command spelled c.in-Ok.ensures.reads) (c.run.ensures.ran.runs.bounded (told, decisive) r v here) look

pub returns-in-Err-Bad-clause-bounded : goal.returns-in-Err-Bad-clause-bounded
returns-in-Err-Bad-clause-bounded g c told decisive r v here look = tt

pub returns-in-Err-Memory-clause-bounded : goal.returns-in-Err-Memory-clause-bounded
returns-in-Err-Memory-clause-bounded g c told decisive r v here look = subst (IsBoundedIn here.holds.stands.standing.records c.args.self.now.store.held.collection) (sym c.refuse.ensures.reply) tt

pub returns-in-Ok-clause-clear : goal.returns-in-Ok-clause-clear
returns-in-Ok-clause-clear g c told r v here = lined_clear _ _ c.args.self.now c.run.new.self c.met_only-self.result c.in-Ok.command c.args.line.now c.run.result c.in-Ok.ensures.reads
    (λ other spelled. one_command c.args.line.now other c.in-Ok.command spelled c.in-Ok.ensures.reads) (c.run.ensures.ran.runs.clear told r v here)

pub returns-in-Err-Bad-clause-clear : goal.returns-in-Err-Bad-clause-clear
returns-in-Err-Bad-clause-clear g c told r v here = quiet_clear _ _ c.args.self.now _ c.args.line.now (Reply.Bad c.in-Err-Bad.at) (λ h. h) (λ clear. clear) refl

pub returns-in-Err-Memory-clause-clear : goal.returns-in-Err-Memory-clause-clear
returns-in-Err-Memory-clause-clear g c told r v here = quiet_clear _ _ c.args.self.now _ c.args.line.now c.refuse.result (subst (λ (x : Reply). ¬ IsSwept x) (sym c.refuse.ensures.reply) (λ h. h)) (λ clear. clear) refl

pub returns-in-Ok-clause-asked : goal.returns-in-Ok-clause-asked
returns-in-Ok-clause-asked g c = lined_asked _ _ _ _ c.args.self.now c.run.new.self c.met_only-self.result c.in-Ok.command c.args.line.now c.run.result _ _ c.in-Ok.ensures.reads
    (λ other spelled. one_command c.args.line.now other c.in-Ok.command spelled c.in-Ok.ensures.reads) c.run.ensures.ran.asked

pub returns-in-Ok-clause-counts : goal.returns-in-Ok-clause-counts
returns-in-Ok-clause-counts g c = lined_counts c.in-Ok.command c.args.line.now c.run.result c.run.new.self.met _ _ c.in-Ok.ensures.reads (λ other spelled. one_command c.args.line.now other c.in-Ok.command spelled c.in-Ok.ensures.reads) c.run.ensures.ran.counts

pub returns-in-Ok-clause-child : goal.returns-in-Ok-clause-child
returns-in-Ok-clause-child g c = c.run.ensures.ran.child

pub returns-in-Ok-clause-quiet : goal.returns-in-Ok-clause-quiet
returns-in-Ok-clause-quiet g c = c.run.ensures.ran.quiet

pub returns-in-Ok-clause-cause : goal.returns-in-Ok-clause-cause
returns-in-Ok-clause-cause g c decisive =
    let s = c.args.self.now in
    let a = g.G.Ground.told c.args.ground.now in
    ends_more c.run.result (IsKnown (IsTrue g.G.Ground.tells × IsDecisive (g.D.Decides.rule c.args.rules.now)) a s) (IsHeld g.G.Ground.tells a s) (λ held. ((held.0, decisive), held.1)) c.run.ensures.ran.runs.cause

pub returns-in-Ok-clause-untouched : goal.returns-in-Ok-clause-untouched
returns-in-Ok-clause-untouched g c told damaged = (c.in-Ok.command, c.in-Ok.ensures.reads, c.run.ensures.ran.runs.untouched told damaged)

pub returns-in-Err-Bad-clause-asked : goal.returns-in-Err-Bad-clause-asked
returns-in-Err-Bad-clause-asked g c = nothing_spawned _ _ _ c.args.self.now _ c.args.line.now (Reply.Bad c.in-Err-Bad.at) _ tt (none_met c.met_only-self.result false c.met_only-self.ensures) refl

pub returns-in-Err-Bad-clause-counts : goal.returns-in-Err-Bad-clause-counts
returns-in-Err-Bad-clause-counts g c = none_counts c.args.line.now (Reply.Bad c.in-Err-Bad.at) c.met_only-self.result _ (ap (λ (m : Met). m.left) c.met_only-self.ensures)

pub returns-in-Err-Memory-clause-asked : goal.returns-in-Err-Memory-clause-asked
returns-in-Err-Memory-clause-asked g c = nothing_spawned _ _ _ c.args.self.now _ c.args.line.now c.refuse.result _ c.refuse.ensures.tells_none c.refuse.ensures.meets_none refl

pub returns-in-Err-Memory-clause-counts : goal.returns-in-Err-Memory-clause-counts
returns-in-Err-Memory-clause-counts g c = none_counts c.args.line.now c.refuse.result c.refuse.new.met _ (ap (λ (m : Met). m.left) c.refuse.ensures.met)

-- ---- memory was wanted

pub returns-in-Ok-clause-memory : goal.returns-in-Ok-clause-memory
returns-in-Ok-clause-memory g c command spelled frugal r is e =
    let same = one_command c.args.line.now command c.in-Ok.command spelled c.in-Ok.ensures.reads in
    subst (λ (k : Command). MayWant c.args.self.now.store.held.collection c.args.self.now.work r k c.run.new.self.met.child) (sym same) (c.run.ensures.ran.memory r is e)

pub returns-in-Err-Bad-clause-memory : goal.returns-in-Err-Bad-clause-memory
returns-in-Err-Bad-clause-memory g c command spelled frugal r is e = absurd (cc e)

pub returns-in-Err-Memory-clause-memory : goal.returns-in-Err-Memory-clause-memory
returns-in-Err-Memory-clause-memory g c command spelled frugal r is e = absurd (c.in-Err-Memory.ensures.spare command spelled frugal (ap Err c.in-Err-Memory.field-0-is))

-- ---- nothing was asked of the ground

pub returns-in-Ok-clause-still : goal.returns-in-Ok-clause-still
returns-in-Ok-clause-still g c each = c.run.ensures.still (each c.in-Ok.command c.in-Ok.ensures.reads)

pub returns-in-Err-Bad-clause-still : goal.returns-in-Err-Bad-clause-still
returns-in-Err-Bad-clause-still g c each = (refl, refl)

pub returns-in-Err-Memory-clause-still : goal.returns-in-Err-Memory-clause-still
returns-in-Err-Memory-clause-still g c each = (refl, refl)
