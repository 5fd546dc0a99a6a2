use Rattle.std.proofs.Common.{refl, sym, ap, subst, ◌∙◌}
use Rattle.std.specs.Prelude.{is_ok}
use Rattle.ip_spec.specs.declared.command.Command.TheVariants as Command
use Rattle.ip_spec.specs.declared.reply.Reply.{Reply}
use Rattle.ip_held.specs.Collecting.{phase_of}
use Rattle.ip_held.specs.Work.{work_at}
use Rattle.ip_session.specs.declared.session.Session.{Session}
use Rattle.ip_session.specs.Session.{IsAnswered}
use Rattle.ip_session.proofs.SessionLemmas.{log_refused}
use Rattle.ip_session.proofs.Referring.{log_unnamed, log_done}
use Rattle.ip_session.proofs.Reading.{still_answered, memory_answered}
use Rattle.ip_session.proofs.Wanted.{unnamed_memory}
use Rattle.ip_session.proofs.session.Session.log.Goals as goal

pub returns-in-Err-clause-answered : goal.returns-in-Err-clause-answered
returns-in-Err-clause-answered c records r v of l = still_answered records c.args.self.now c.args.self.now r v (Command.Log c.args.target) refl refl l c.in-Err.reply c.requires.met
    (log_unnamed r (phase_of c.args.self.now.store.held.collection) (work_at c.args.self.now.work v) c.args.target c.in-Err.reply (sym (c.in-Err.ensures.number r of))) refl (log_refused c.args.target)

pub log-requires : goal.log-requires
log-requires c =
    let r = c.requires.tables.0 in
    let is = c.requires.tables.1 in
    (r, is.0, c.in-Ok.ensures.retained r is.0)

pub returns-in-Ok-log-clause-answered : goal.returns-in-Ok-log-clause-answered
returns-in-Ok-log-clause-answered c records r v of l =
    let s = c.args.self.now in
    subst (IsAnswered records s s r v (Command.Log c.args.target)) (sym (ap Reply.Log (c.of.ensures ∙ c.in-Ok-log.ensures r of)))
    (still_answered records s s r v (Command.Log c.args.target) refl refl l _ c.requires.met
    (log_done r (phase_of s.store.held.collection) (work_at s.work v) c.args.target c.in-Ok.number (sym (c.in-Ok.ensures.number r of))) refl (log_refused c.args.target))

pub returns-in-Err-log-clause-answered : goal.returns-in-Err-log-clause-answered
returns-in-Err-log-clause-answered c records r v of l =
    let s = c.args.self.now in
    let after : Session = record s { met = c.refuse.new.met } in
    subst (IsAnswered records s after r v (Command.Log c.args.target)) (sym c.refuse.ensures.reply)
    (memory_answered records s after r v (Command.Log c.args.target) refl refl l c.refuse.ensures.met (log_refused c.args.target))

-- ---- memory was wanted

pub returns-in-Err-clause-memory : goal.returns-in-Err-clause-memory
returns-in-Err-clause-memory c r is e = absurd (unnamed_memory r c.args.target c.in-Err.reply (c.in-Err.ensures.number r is.0) e)

pub returns-in-Ok-log-clause-memory : goal.returns-in-Ok-log-clause-memory
returns-in-Ok-log-clause-memory c r is e = ap is_ok (sym (c.in-Ok.ensures.number r is.0))

pub returns-in-Err-log-clause-memory : goal.returns-in-Err-log-clause-memory
returns-in-Err-log-clause-memory c r is e = ap is_ok (sym (c.in-Ok.ensures.number r is.0))
