use Rattle.std.proofs.Common.{rules, ◌-◌, ◌^◌, ◌≤◌, refl, sym, ap, ap₂, ◌∙◌, subst, Ok}
use Rattle.std.proofs.Math.Nat.{le_refl}
use Rattle.ip_ground.specs.declared.names.GroundCounts.{GroundCounts}
use Rattle.ip_image.specs.declared.counts.TurnCounts.{TurnCounts}
use Rattle.ip_spec.specs.declared.command.Command.TheVariants as Command
use Rattle.ip_spec.specs.declared.met.Met.{Met}
use Rattle.ip_held.specs.declared.collection.Collection.{Collection}
use Rattle.ip_session.specs.Asking.{GoesOnBy}
use Rattle.ip_session.specs.Session.{conditions_with, counted_end, state_in, hears, attempt_of}
use Rattle.ip_app.specs.Turns.{turn_of, AreCounts}
use Rattle.ip_app.proofs.Counting.{falls_removals, removals_any, bound_any, bound_if, falls_if, ended_counts}
use Rattle.ip_app.proofs.Concluding.{concluded_line, unheld}
use Rattle.ip_app.proofs.Judging.{heard_by, started_here, watches_of}
use Rattle.ip_app.proofs.Happened.{exchange_of, started_of, starts_of, none_started_of, hears_of, happens_of, cut_of, later_in}
use Rattle.ip_app.proofs.LineFiles.{reads_line, reads_cut, writes_line, lends_line, lends_cut}
use Rattle.ip_app.proofs.Moments.{cut_again}
use Rattle.ip_held.proofs.Recovering.{held_has}
use Rattle.ip_app.proofs.Settling.{settles_line, settles_cut}
use Rattle.ip_app.proofs.TurnLemmas.{begun_of, cuts_short, went_to, cut_to}
use Rattle.ip_app.proofs.Unwritten.{none_still, damaged_end}
use Rattle.ip_app.proofs.exchange.exchange.Goals as goal

pub returns-in-Ok-clause-replied : goal.returns-in-Ok-clause-replied
returns-in-Ok-clause-replied g c source_tells left read_faults known r v works =
    let answered = c.in-Ok.ensures.goes in
    let line = c.args.line.now in
    let s = c.args.session.now in
    let s' = c.answer-answered.new.self in
    let went = went_to _ known _ _ s s' r v line answered.0 (λ is. let w = works is in (answered.4 w.0 w.2 r v w.1).0) in
    let goes = went.1 in
    let asked = answered.2 in
    let small = subst (λ (n : TurnCounts). n.remove_faults ≤ 2 ^ 64 - 1) c.requires.counted c.requires.removals in
    let removals = removals_any answered.0 _ _ small answered.3.any in
    let counted = c.turn_counts.ensures ∙ ap₂ turn_of c.counts.ensures c.counts-2.ensures in
    record {
      exchange = exchange_of line c.met.result c.args.counts.now c.turn_counts.result went.0.2 asked.jobs asked.ends answered.0 (state_in s' went.0.0 went.0.1);
      after = went.0.0;
      view = went.0.1;
      line_is = refl;
      text_is = answered.1;
      exchanged = record {
        begun = begun_of _ known _ _ _ _ _ _ line _ _ went.0.2 asked.jobs asked.ends answered.0
            (record { dir = refl; source_tells = refl; ground_tells = refl; spawner_tells = refl; log_tells = c.note.ensures.told; read_faults = le_refl read_faults; counts = falls_removals _ _ removals; spawns = later_in _ _ _ _ _ _ _ _ asked.asked c.requires.counters })
            (λ is. (goes is).files) refl (λ is. (goes is).gives) c.met.ensures c.note.ensures.noted counted c.requires.counted (bound_any answered.0 _ _ answered.3.any) asked.told (λ is. g.met.G.Ground.possible c.args.ground.now (works is).0)
            (λ is. reads_line s.store.held (g.G.Ground.told c.args.ground.now) (g.G.Ground.told c.answer-answered.new.ground) (g.D.Decides.rule c.args.rules.now) (state_in s r v) (state_in s' went.0.0 went.0.1) (conditions_with s'.met went.0.2) (exchange_of line c.met.result c.args.counts.now c.turn_counts.result went.0.2 asked.jobs asked.ends answered.0 (state_in s' went.0.0 went.0.1)) (goes is).gives (goes is).only)
            (λ is. let w = works is in lends_line s.store.held (g.G.Ground.told c.args.ground.now) (g.G.Ground.told c.answer-answered.new.ground) r w.1.holds.tables (held_has s.store.held r (g.G.Ground.told c.args.ground.now) w.1.holds) (g.D.Decides.rule c.args.rules.now) (state_in s r v) (state_in s' went.0.0 went.0.1) line (conditions_with s'.met went.0.2) answered.0 (goes is).gives (goes is).only);
        now_at = λ is. refl;
        goes_on_by = subst (λ (m : Met). GoesOnBy m.child asked.jobs s.store.held.collection s'.store.held.collection) (sym c.met.ensures) asked.asked.goes_on;
        watches = λ is.
            let w = works is in
            let gone = goes is in
            let rule = g.D.Decides.rule c.args.rules.now in
            let after = state_in s' went.0.0 went.0.1 in
            watches_of (g.G.Ground.told c.args.ground.now) (g.G.Ground.told c.answer-answered.new.ground) s s' r v w.1 line c.met.result c.args.counts.now c.turn_counts.result went.0.2 asked.jobs asked.ends answered.0 went.0.0 went.0.1 gone.working c.met.ensures
            gone.files.goes rule gone.said (g.met.G.Ground.possible c.args.ground.now w.0) (g.met.G.Ground.possible c.answer-answered.new.ground w.0)
            (heard_by rule s s' (state_in s r v) after line went.0.2 answered.0 asked.jobs asked.ends _ _ asked.asked gone.gives)
            (λ reaped ended. (concluded_line rule (state_in s r v) (conditions_with s'.met went.0.2) reaped ended answered.0 after line gone.gives).0)
            (λ held reaped ended. unheld rule (state_in s r v) (conditions_with s'.met went.0.2) reaped ended answered.0 after line gone.gives held)
            gone.judged gone.settled (answered.5 w.0 r v w.1) gone.space gone.nothing_pending gone.slots
            (λ order. settles_line (g.G.Ground.told c.args.ground.now) (g.G.Ground.told c.answer-answered.new.ground) rule s.store.held (state_in s r v) after line (conditions_with s'.met went.0.2) answered.0 order (held_has s.store.held r (g.G.Ground.told c.args.ground.now) w.1.holds) gone.stays gone.gives gone.only) (answered.4 w.0 w.2 r v w.1).2 gone.seen (answered.4 w.0 w.2 r v w.1).1
            (starts_of rule s s' (state_in s r v) after line _ answered.0 asked.jobs asked.ends _ _ asked.asked gone.gives)
            (λ has. started_here s.store.held s'.store.held.slot s'.store.held.collection asked.jobs (started_of rule s s' (state_in s r v) after line _ answered.0 asked.jobs asked.ends _ _ asked.asked gone.gives has))
            (none_started_of s s' line (Ok answered.0) asked.jobs asked.ends _ _ asked.asked)
            (λ reaped ended. hears_of rule s s' (state_in s r v) after line went.0.2 answered.0 asked.jobs asked.ends _ _ c.requires.tables asked.asked gone.gives reaped (sym (ap (λ (m : Met). m.child) c.met.ensures) ∙ ended))
            asked.asked.goes_on (λ look. (asked.asked.command Command.Look look).few refl) asked.asked.sliced;
        clear = λ is. let w = works is in (answered.5 w.0 r v w.1).keeps;
        unwritten = λ is. writes_line s.store.held (g.G.Ground.told c.args.ground.now) (g.G.Ground.told c.answer-answered.new.ground) (g.D.Decides.rule c.args.rules.now) (state_in s r v) (state_in s' went.0.0 went.0.1) (conditions_with s'.met went.0.2) (exchange_of line c.met.result c.args.counts.now c.turn_counts.result went.0.2 asked.jobs asked.ends answered.0 (state_in s' went.0.0 went.0.1)) (goes is).gives (goes is).only;
        happens = happens_of s s' answered.0 went.0.2 asked.jobs asked.ends _ _ _ _ _ line line c.met.result c.args.counts.now c.turn_counts.result refl c.met.ensures c.requires.counted counted asked.asked answered.3;
        phase = refl;
        child = c.answer-answered.ensures.child;
        serving = c.in-Ok.ensures.tables;
        working = λ is. (goes is).working;
        nothing_pending = λ is order. (goes is).nothing_pending order;
      };
      no_fault = removals;
      quiet = λ is. (goes is).said;
      atomic = λ is order. (goes is).atomic order;
    }

pub returns-in-Err-clause-cut : goal.returns-in-Err-clause-cut
returns-in-Err-clause-cut g c source_tells left read_faults known r v works =
    let line = c.args.line.now in
    let s = c.args.session.now in
    let ended = cut_to _ known _ _ s c.answer-answered.new.self r v line (λ is. let w = works is in c.in-Err.ensures.cut w.0 w.2 r v w.1) in
    let cut = ended.1 in
    let asked = c.in-Err.ensures.ended.0 in
    let falls = falls_if (counted_end c.in-Err.end) _ _ (subst (λ (n : TurnCounts). n.file_faults ≤ 2 ^ 64 - 1) c.requires.counted c.requires.small) c.requires.damages c.in-Err.ensures.ended.1 in
    cuts_short _ c.in-Err.end _ known _ _ _ line _ _ (state_in s r v) c.ended_status.ensures (record {
      exchange = exchange_of line c.met.result c.args.counts.now c.turn_counts.result ended.0.2 asked.jobs asked.ends ended.0.0 ended.0.1;
      line_is = refl;
      begun = begun_of _ known _ _ _ _ _ _ line _ _ ended.0.2 asked.jobs asked.ends ended.0.0
          (record { dir = refl; source_tells = refl; ground_tells = refl; spawner_tells = refl; log_tells = c.note.ensures.told; read_faults = le_refl read_faults; counts = falls; spawns = later_in _ _ _ _ _ _ _ _ asked.asked c.requires.counters })
          (λ is. (cut is).files) refl (λ is. (cut is).gives) c.met.ensures c.note.ensures.noted (c.turn_counts.ensures ∙ ap₂ turn_of c.counts.ensures c.counts-2.ensures) c.requires.counted (bound_if (counted_end c.in-Err.end) _ _ c.in-Err.ensures.ended.1) asked.told (λ is. g.met.G.Ground.possible c.args.ground.now (works is).0)
          (λ is. reads_cut s.store.held (g.G.Ground.told c.args.ground.now) (g.G.Ground.told c.answer-answered.new.ground) (exchange_of line c.met.result c.args.counts.now c.turn_counts.result ended.0.2 asked.jobs asked.ends ended.0.0 ended.0.1) (cut is).only)
          (λ is. let w = works is in lends_cut s.store.held (g.G.Ground.told c.args.ground.now) (g.G.Ground.told c.answer-answered.new.ground) r w.1.holds.tables (held_has s.store.held r (g.G.Ground.told c.args.ground.now) w.1.holds) line (cut is).only);
      counted = ended_counts c.in-Err.end _ _ c.in-Err.ensures.ended.1;
      happens = cut_of s c.answer-answered.new.self c.in-Err.end ended.0.2 asked.jobs asked.ends ended.0.0 ended.0.1 (g.G.Ground.counts_of c.args.ground.now) (g.G.Ground.counts_of c.answer-answered.new.ground) (g.P.Spawner.counts_of c.args.spawner.now) (g.P.Spawner.counts_of c.answer-answered.new.spawner) line c.met.result c.args.counts.now c.turn_counts.result c.met.ensures c.requires.counted (c.turn_counts.ensures ∙ ap₂ turn_of c.counts.ensures c.counts-2.ensures) asked.asked c.in-Err.ensures.ended.1;
      unwritten = λ told damage. let still = c.in-Err.ensures.untouched told (damaged_end c.in-Err.end damage) in none_still (hears still.0) (attempt_of s.store.held still.0) _ _ still.2;
      quiet = λ is. (cut is).said;
      atomic = λ is order. (cut is).atomic order;
      slots = λ is order. (cut is).slots order;
      again = λ is order. cut_again _ r ended.0.1.repository _ _ (works is).1.holds order (cut is).files.goes ((cut is).atomic order) (g.met.G.Ground.possible c.answer-answered.new.ground (works is).0);
      settles = λ is order. settles_cut (g.G.Ground.told c.args.ground.now) (g.G.Ground.told c.answer-answered.new.ground) s.store.held line order (held_has s.store.held r (g.G.Ground.told c.args.ground.now) (works is).1.holds) (cut is).stays (cut is).only;
      space = λ is order none slot live. (cut is).space order (λ reaped ended. none reaped (ap (λ (m : Met). m.child) c.met.ensures ∙ ended)) slot live;
    }) (λ is. ((works is).0, (r, v, (works is).1))) (λ is. (works is).2) (λ sure. c.in-Err.ensures.cause sure)

pub returns-in-Ok-clause-sayable : goal.returns-in-Ok-clause-sayable
returns-in-Ok-clause-sayable g c =
    let told : c.counts.result.say_faults ≤ 2 ^ 64 - 1 = search rules in
    subst (λ (n : GroundCounts). n.say_faults ≤ 2 ^ 64 - 1) c.counts.ensures told

pub returns-in-Err-clause-sayable : goal.returns-in-Err-clause-sayable
returns-in-Err-clause-sayable g c =
    let told : c.counts.result.say_faults ≤ 2 ^ 64 - 1 = search rules in
    subst (λ (n : GroundCounts). n.say_faults ≤ 2 ^ 64 - 1) c.counts.ensures told

pub returns-in-Ok-clause-counters : goal.returns-in-Ok-clause-counters
returns-in-Ok-clause-counters g c =
    let running : c.counts-2.result.running ≤ 2 ^ 64 - 1 = search rules in
    let waits : c.counts-2.result.waits ≤ 2 ^ 64 - 1 = search rules in
    let reaps : c.counts-2.result.reaps ≤ 2 ^ 64 - 1 = search rules in
    let faults : c.counts-2.result.spawn_faults ≤ 2 ^ 64 - 1 = search rules in
    subst AreCounts c.counts-2.ensures (record { running = running; waits = waits; reaps = reaps; spawn_faults = faults })

pub returns-in-Err-clause-counters : goal.returns-in-Err-clause-counters
returns-in-Err-clause-counters g c =
    let running : c.counts-2.result.running ≤ 2 ^ 64 - 1 = search rules in
    let waits : c.counts-2.result.waits ≤ 2 ^ 64 - 1 = search rules in
    let reaps : c.counts-2.result.reaps ≤ 2 ^ 64 - 1 = search rules in
    let faults : c.counts-2.result.spawn_faults ≤ 2 ^ 64 - 1 = search rules in
    subst AreCounts c.counts-2.ensures (record { running = running; waits = waits; reaps = reaps; spawn_faults = faults })
