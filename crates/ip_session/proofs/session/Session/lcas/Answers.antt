use Rattle.std.proofs.Common.{refl, sym, ap, subst, ◌∙◌}
use Rattle.std.specs.Prelude.{is_ok}
use Rattle.ip_spec.specs.declared.command.Command.TheVariants as Command
use Rattle.ip_spec.specs.declared.reply.Reply.{Reply}
use Rattle.ip_held.specs.Collecting.{phase_of}
use Rattle.ip_held.specs.Work.{work_at}
use Rattle.ip_session.specs.declared.session.Session.{Session}
use Rattle.ip_session.specs.Session.{IsAnswered}
use Rattle.ip_session.proofs.SessionLemmas.{lcas_refused}
use Rattle.ip_session.proofs.Referring.{lcas_unnamed, lcas_unnamed_second, lcas_done}
use Rattle.ip_session.proofs.Reading.{still_answered, memory_answered}
use Rattle.ip_session.proofs.Wanted.{unnamed_memory}
use Rattle.ip_session.proofs.session.Session.lcas.Goals as goal

pub returns-in-Err-clause-answered : goal.returns-in-Err-clause-answered
returns-in-Err-clause-answered c records r v of l = still_answered records c.args.self.now c.args.self.now r v (Command.Lcas c.args.one c.args.other) refl refl l c.in-Err.reply c.requires.met
    (lcas_unnamed r (phase_of c.args.self.now.store.held.collection) (work_at c.args.self.now.work v) c.args.one c.args.other c.in-Err.reply (sym (c.in-Err.ensures.number r of))) refl (lcas_refused c.args.one c.args.other)

pub returns-in-Err-resolve-clause-answered : goal.returns-in-Err-resolve-clause-answered
returns-in-Err-resolve-clause-answered c records r v of l = still_answered records c.args.self.now c.args.self.now r v (Command.Lcas c.args.one c.args.other) refl refl l c.in-Err-resolve.reply c.requires.met
    (lcas_unnamed_second r (phase_of c.args.self.now.store.held.collection) (work_at c.args.self.now.work v) c.args.one c.args.other c.in-Ok.number c.in-Err-resolve.reply (sym (c.in-Ok.ensures.number r of)) (sym (c.in-Err-resolve.ensures.number r of)))
    refl (lcas_refused c.args.one c.args.other)

pub lcas-requires : goal.lcas-requires
lcas-requires c =
    let r = c.requires.tables.0 in
    let is = c.requires.tables.1 in
    (r, is.0, c.in-Ok.ensures.retained r is.0, c.in-Ok-resolve.ensures.retained r is.0)

pub returns-in-Ok-lcas-clause-answered : goal.returns-in-Ok-lcas-clause-answered
returns-in-Ok-lcas-clause-answered c records r v of l =
    let s = c.args.self.now in
    subst (IsAnswered records s s r v (Command.Lcas c.args.one c.args.other)) (sym (ap Reply.Lcas (c.of.ensures ∙ c.in-Ok-lcas.ensures r of)))
    (still_answered records s s r v (Command.Lcas c.args.one c.args.other) refl refl l _ c.requires.met
    (lcas_done r (phase_of s.store.held.collection) (work_at s.work v) c.args.one c.args.other c.in-Ok.number c.in-Ok-resolve.number (sym (c.in-Ok.ensures.number r of)) (sym (c.in-Ok-resolve.ensures.number r of)))
    refl (lcas_refused c.args.one c.args.other))

pub returns-in-Err-lcas-clause-answered : goal.returns-in-Err-lcas-clause-answered
returns-in-Err-lcas-clause-answered c records r v of l =
    let s = c.args.self.now in
    let after : Session = record s { met = c.refuse.new.met } in
    subst (IsAnswered records s after r v (Command.Lcas c.args.one c.args.other)) (sym c.refuse.ensures.reply)
    (memory_answered records s after r v (Command.Lcas c.args.one c.args.other) refl refl l c.refuse.ensures.met (lcas_refused c.args.one c.args.other))

-- ---- memory was wanted

pub returns-in-Err-clause-memory : goal.returns-in-Err-clause-memory
returns-in-Err-clause-memory c r is e = absurd (unnamed_memory r c.args.one c.in-Err.reply (c.in-Err.ensures.number r is.0) e)

pub returns-in-Err-resolve-clause-memory : goal.returns-in-Err-resolve-clause-memory
returns-in-Err-resolve-clause-memory c r is e = absurd (unnamed_memory r c.args.other c.in-Err-resolve.reply (c.in-Err-resolve.ensures.number r is.0) e)

pub returns-in-Ok-lcas-clause-memory : goal.returns-in-Ok-lcas-clause-memory
returns-in-Ok-lcas-clause-memory c r is e = (ap is_ok (sym (c.in-Ok.ensures.number r is.0)), ap is_ok (sym (c.in-Ok-resolve.ensures.number r is.0)))

pub returns-in-Err-lcas-clause-memory : goal.returns-in-Err-lcas-clause-memory
returns-in-Err-lcas-clause-memory c r is e = (ap is_ok (sym (c.in-Ok.ensures.number r is.0)), ap is_ok (sym (c.in-Ok-resolve.ensures.number r is.0)))
