-- What the commands of a collection are answered with.
--     IsFound r store begun      the branch is there that stands against it
--     HeldReplies name met met' reply      the branch of this name is told, or memory was refused for it
--     StartReplies r begun met met' result      what came of a collection that was to begin
--     cancel_answer done      what came of one that was to end
--     look_answer looked      what came of one whose child was asked
use Rattle.std.specs.Prelude.{◌≡◌, ◌⊎◌, true, None, Result, Ok, Err, IsSome, IsSomeAnd}
use Rattle.ip_spec.specs.declared.met.Met.{Met}
use Rattle.ip_spec.specs.declared.reply.Reply.{Reply}
use Rattle.ip_spec.specs.Path.{Bytes}
use Rattle.ip_spec.specs.Record.{Hash}
use Rattle.ip_spec.specs.Repository.{Repository}
use Rattle.ip_collects.specs.declared.cancelling.CancelFault.{CancelFault}
use Rattle.ip_collects.specs.declared.cancelling.Cancelled.{Cancelled}
use Rattle.ip_collects.specs.declared.finishing.FinishFault.{FinishFault}
use Rattle.ip_collects.specs.declared.finishing.Looked.{Looked}
use Rattle.ip_collects.specs.declared.finishing.Rejection.TheVariants as Rejection
use Rattle.ip_collects.specs.declared.starting.CollectFault.{CollectFault}
use Rattle.ip_held.specs.declared.held.Held.{Held}
use Rattle.ip_collects.specs.Starting.{branch_name_at}
use Rattle.ip_held.specs.Held.{IsOf}
use Rattle.ip_session.specs.declared.session.SessionEnd.{SessionEnd}
use Rattle.ip_session.specs.Session.{met_only}

abbrev pub IsFound : Repository → Held → Result Hash CollectFault → Type 0
IsFound r store (Err (CollectFault.Held place)) = IsOf store r × IsSome (branch_name_at r place)
IsFound r store begun = Unit {0}

abbrev pub HeldReplies : Bytes → Met → Met → Reply → Type 0
HeldReplies name met met' reply = ((reply ≡ Reply.Held name) × (met' ≡ met)) ⊎ ((reply ≡ Reply.Memory) × (met' ≡ met_only true))

abbrev pub StartReplies : Repository → Result Hash CollectFault → Met → Met → Result Reply SessionEnd → Type 0
StartReplies r (Ok name) met met' result = (result ≡ Ok (Reply.Started name)) × (met' ≡ met)
StartReplies r (Err (CollectFault.Busy name)) met met' result = (result ≡ Ok (Reply.Busy name)) × (met' ≡ met)
StartReplies r (Err (CollectFault.Held place)) met met' result = IsSomeAnd (branch_name_at r place) (λ name. (reply : Reply) × (result ≡ Ok reply) × HeldReplies name met met' reply)
StartReplies r (Err (CollectFault.Limit limit)) met met' result = (result ≡ Ok (Reply.Limit limit)) × (met' ≡ met)
StartReplies r (Err CollectFault.Start) met met' result = (result ≡ Ok Reply.StartFault) × (met' ≡ met)
StartReplies r (Err CollectFault.Memory) met met' result = (result ≡ Ok Reply.Memory) × (met' ≡ met)
StartReplies r (Err CollectFault.Ground) met met' result = (result ≡ Err SessionEnd.Ground) × (met' ≡ met)

abbrev pub cancel_answer : Result Cancelled CancelFault → Result Reply SessionEnd
cancel_answer (Ok Cancelled.Done) = Ok Reply.Cancelled
cancel_answer (Ok Cancelled.Orphan) = Ok Reply.CancelledOrphan
cancel_answer (Err CancelFault.Idle) = Ok Reply.Idle
cancel_answer (Err CancelFault.Ground) = Err SessionEnd.Ground

-- the answer of a look, or of a finish
abbrev pub look_answer : Result Looked FinishFault → Result Reply SessionEnd
look_answer (Ok Looked.Running) = Ok Reply.Running
look_answer (Ok (Looked.Checking left)) = Ok (Reply.Checking left)
look_answer (Ok (Looked.Collected collected)) = Ok (Reply.Collected collected.floor collected.left)
look_answer (Err FinishFault.Idle) = Ok Reply.Idle
look_answer (Err FinishFault.Wait) = Ok Reply.WaitFault
look_answer (Err (FinishFault.Rejected (Rejection.Exit exit))) = Ok (Reply.RejectedExit exit)
look_answer (Err (FinishFault.Rejected (Rejection.Differs difference))) = Ok (Reply.Rejected difference)
look_answer (Err (FinishFault.Limit limit)) = Ok (Reply.Limit limit)
look_answer (Err FinishFault.Memory) = Ok Reply.Memory
look_answer (Err FinishFault.Ground) = Err SessionEnd.Ground
look_answer (Err (FinishFault.Damaged at)) = Err (SessionEnd.Damaged at None)
