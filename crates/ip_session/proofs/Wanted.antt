-- Where memory was wanted.
--     unnamed_memory      a reference that names none is no want of it
--     look_wants, cancel_wants, start_wants      of the commands of a collection
use Rattle.std.proofs.Common.{◌≡◌, ◌⊎◌, inl, inr, refl, sym, subst, Option, Ok, Err}
use Rattle.std.specs.Prelude.{Result}
use Rattle.ip_base.specs.declared.exit.Reaped.{Reaped}
use Rattle.ip_spec.specs.declared.command.Command.{Command}
use Rattle.ip_spec.specs.declared.command.Target.{Target}
use Rattle.ip_spec.specs.declared.met.Child.{Child}
use Rattle.ip_spec.specs.declared.met.Met.{Met}
use Rattle.ip_spec.specs.declared.reply.Reply.{Reply}
use Rattle.ip_spec.specs.Repository.{Repository}
use Rattle.ip_spec.specs.Step.{resolve, HasSucceeded}
use Rattle.ip_collects.specs.declared.cancelling.CancelFault.{CancelFault}
use Rattle.ip_collects.specs.declared.cancelling.Cancelled.{Cancelled}
use Rattle.ip_collects.specs.declared.finishing.FinishFault.{FinishFault}
use Rattle.ip_collects.specs.declared.finishing.Looked.{Looked}
use Rattle.ip_collects.specs.declared.finishing.Rejection.{Rejection}
use Rattle.ip_held.specs.declared.collection.Collection.{Collection}
use Rattle.ip_held.specs.declared.work.Work.{Work}
use Rattle.ip_collects.specs.Finishing.{IsQuiet}
use Rattle.ip_collects.proofs.FinishTurns.{IsEnding}
use Rattle.ip_session.specs.declared.session.Session.{Session}
use Rattle.ip_session.specs.declared.session.SessionEnd.{SessionEnd}
use Rattle.ip_session.specs.Starting.{cancel_answer, look_answer}
use Rattle.ip_session.specs.Wanting.{MayWant, Wants}
use Rattle.ip_session.proofs.FinishGoes.{Says}
use Rattle.ip_session.proofs.Referring.{IsUnnamed, NamesNone, names_none}
use Rattle.ip_store.specs.declared.store.Store.{Store}

pub unnamed_memory : (r : Repository) (target : Target) (reply : Reply) → Err reply ≡ resolve r target → ◌≡◌ {A = Result Reply SessionEnd} (Ok reply) (Ok Reply.Memory) → ⊥
unnamed_memory r target reply is memory =
    let e : reply ≡ Reply.Memory = cc memory in
    subst IsUnnamed e (subst NamesNone (sym is) (names_none r target))

memory_of : (looked : Result Looked FinishFault) → look_answer looked ≡ Ok Reply.Memory → looked ≡ Err FinishFault.Memory
memory_of (Ok Looked.Running) is = absurd (cc is)
memory_of (Ok (Looked.Checking k)) is = absurd (cc is)
memory_of (Ok (Looked.Collected collected)) is = absurd (cc is)
memory_of (Err FinishFault.Idle) is = absurd (cc is)
memory_of (Err FinishFault.Wait) is = absurd (cc is)
memory_of (Err (FinishFault.Rejected (Rejection.Exit exit))) is = absurd (cc is)
memory_of (Err (FinishFault.Rejected (Rejection.Differs difference))) is = absurd (cc is)
memory_of (Err (FinishFault.Limit own)) is = absurd (cc is)
memory_of (Err FinishFault.Memory) is = refl
memory_of (Err FinishFault.Ground) is = absurd (cc is)
memory_of (Err (FinishFault.Damaged at)) is = absurd (cc is)

succeeded : (running : Option Collection) (work : Work) (r : Repository) (command : Command) → IsEnding command → (child : Child) → HasSucceeded child → MayWant running work r command child
succeeded running work r Command.Look ending child has = has
succeeded running work r Command.Finish ending child has = has
succeeded running work r _ ending child has = absurd ending

-- its child has ended with code 0
pub look_wants : (s : Session) (store : Store) (met : Met) (command : Command) → IsEnding command → (looked : Result Looked FinishFault) → met ≡ store.met → Says s store command looked → Wants s (record s { store = store; met = met }) command (look_answer looked)
look_wants s store met command ending looked is_met says r is memory =
    let want = memory_of looked memory in
    subst (λ (m : Met). MayWant s.store.held.collection s.work r command m.child) (sym is_met) (elim says.goes.ended [
      | inl quiet ↦ absurd (subst IsQuiet want quiet)
      | inr heard ↦ succeeded s.store.held.collection s.work r command ending store.met.child (subst HasSucceeded (sym heard.1) (says.goes.wanted want heard.0 heard.1))
    ])

pub cancel_wants : (done : Result Cancelled CancelFault) → cancel_answer done ≡ Ok Reply.Memory → ⊥
cancel_wants (Ok Cancelled.Done) is = cc is
cancel_wants (Ok Cancelled.Orphan) is = cc is
cancel_wants (Err CancelFault.Idle) is = cc is
cancel_wants (Err CancelFault.Ground) is = cc is
