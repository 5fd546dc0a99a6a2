-- What the answers of the calls of a collection do to the core of collections.
--     ending running      the end of a child, which is no event where it was heard before.      starting      the start of one
--     begin_events new now result, finish_events running result, cancel_events result      what the answers of those calls do
use Rattle.std.specs.Prelude.{List, [], ◌∷◌, ◌++◌, Option, Some, None, Result, Ok, Err}
use Rattle.ip_spec.specs.Record.{Hash}
use Rattle.ip_spec.specs.TreeAt.{Records}
use Rattle.ip_spec.specs.declared.event.Event.{Event}
use Rattle.ip_spec.specs.declared.event.Event.TheVariants as Event
use Rattle.ip_collects.specs.declared.cancelling.CancelFault.{CancelFault}
use Rattle.ip_collects.specs.declared.cancelling.Cancelled.{Cancelled}
use Rattle.ip_held.specs.declared.collection.Collection.{Collection}
use Rattle.ip_collects.specs.declared.finishing.FinishFault.{FinishFault}
use Rattle.ip_collects.specs.declared.finishing.Looked.{Looked}
use Rattle.ip_collects.specs.declared.starting.CollectFault.{CollectFault}
use Rattle.ip_held.specs.Tie.{appending}

abbrev pub ending : Option Collection → List Event
ending None = []
ending (Some c) = elim c.exit [ None ↦ Event.End ∷ [] | Some reaped ↦ [] ]

-- at the record of its commit
abbrev pub starting : Option Collection → List Event
starting None = []
starting (Some c) = Event.Start c.job.horizon ∷ []

-- with these records made durable, and this collection then
abbrev pub begin_events : Records → Option Collection → Result Hash CollectFault → List Event
begin_events new now (Ok name) = appending new ++ starting now
begin_events new now (Err CollectFault.Start) = appending new
begin_events new now (Err fault) = []

-- where a fault of the ground did not cut it short
abbrev pub finish_events : Option Collection → Result Looked FinishFault → List Event
finish_events running (Ok Looked.Running) = []
finish_events running (Ok (Looked.Checking left)) = ending running
finish_events running (Ok (Looked.Collected collected)) = ending running ++ Event.Accept ∷ Event.Sweep ∷ []
finish_events running (Err FinishFault.Idle) = []
finish_events running (Err FinishFault.Wait) = []
finish_events running (Err (FinishFault.Rejected rejection)) = ending running ++ Event.Reject ∷ Event.Sweep ∷ []
finish_events running (Err (FinishFault.Limit limit)) = ending running ++ Event.Reject ∷ []
finish_events running (Err FinishFault.Memory) = ending running
finish_events running (Err FinishFault.Ground) = []
finish_events running (Err (FinishFault.Damaged at)) = []

abbrev pub cancel_events : Result Cancelled CancelFault → List Event
cancel_events (Ok Cancelled.Done) = Event.Cancel ∷ Event.Sweep ∷ []
cancel_events (Ok Cancelled.Orphan) = Event.Cancel ∷ []
cancel_events (Err fault) = []
