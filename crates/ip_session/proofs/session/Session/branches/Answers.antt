use Rattle.std.proofs.Common.{refl, sym, ap, subst}
use Rattle.ip_spec.specs.declared.command.Command.TheVariants as Command
use Rattle.ip_spec.specs.declared.reply.Reply.{Reply}
use Rattle.ip_held.specs.Collecting.{phase_of}
use Rattle.ip_held.specs.Work.{work_at}
use Rattle.ip_session.specs.declared.session.Session.{Session}
use Rattle.ip_session.specs.Session.{IsAnswered}
use Rattle.ip_session.proofs.SessionLemmas.{branches_refused}
use Rattle.ip_session.proofs.Referring.{branches_done}
use Rattle.ip_session.proofs.Reading.{still_answered, memory_answered}
use Rattle.ip_session.proofs.session.Session.branches.Goals as goal

pub returns-in-Ok-clause-answered : goal.returns-in-Ok-clause-answered
returns-in-Ok-clause-answered c records r v of l =
    let s = c.args.self.now in
    subst (IsAnswered records s s r v Command.Branches) (sym (ap Reply.Branches (c.in-Ok.ensures r of)))
    (still_answered records s s r v Command.Branches refl refl l _ c.requires.met (branches_done r (phase_of s.store.held.collection) (work_at s.work v)) refl branches_refused)

pub returns-in-Err-clause-answered : goal.returns-in-Err-clause-answered
returns-in-Err-clause-answered c records r v of l =
    let s = c.args.self.now in
    let after : Session = record s { met = c.refuse.new.met } in
    subst (IsAnswered records s after r v Command.Branches) (sym c.refuse.ensures.reply)
    (memory_answered records s after r v Command.Branches refl refl l c.refuse.ensures.met branches_refused)
