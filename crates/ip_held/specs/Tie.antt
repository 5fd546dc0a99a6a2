-- The tie of the store's calls to the core of collections.
--     CorePhaseOf records running phase      what the core sees of the collection that goes on.      IsCoreOf store records core      the core of a store that holds these records: there is one
--     IsTied store records now records' events      from the one core to the other by these events
--     appending new      a durable step that appends these records
use Rattle.std.specs.Prelude.{◌≡◌, ℕ, List, [], ◌∷◌, Option, Some, None, is_some}
use Rattle.ip_spec.specs.TreeAt.{Records}
use Rattle.ip_spec.specs.Core.{Core, CorePhase, CoreRun, AreReached, core_of, core_records}
use Rattle.ip_spec.specs.declared.event.Event.{Event}
use Rattle.ip_held.specs.declared.collection.Collection.{Collection}
use Rattle.ip_held.specs.declared.held.Held.{Held}

-- what is kept is what the records up to the job's end refer to, below its horizon
abbrev pub CorePhaseOf : Records → Option Collection → CorePhase → Type 0
CorePhaseOf records None phase = phase ≡ CorePhase.idle
CorePhaseOf records (Some c) phase = (kept : List ℕ) × AreReached (core_records records) c.job.horizon c.job.end kept × (phase ≡ CorePhase.collecting c.job.horizon kept (is_some c.exit))

pub record IsCoreOf (store : Held) (records : Records) (core : Core) : Type 0 where
  pub phase : CorePhase
  pub seen : CorePhaseOf records store.collection phase
  pub core_is : core ≡ core_of records store.slot.horizon phase

-- for every two cores of the two sides, of which there is one each
abbrev pub IsTied : Held → Records → Held → Records → List Event → Type 0
IsTied store records now records' events = (core core' : Core) → IsCoreOf store records core → IsCoreOf now records' core' → CoreRun core events core'

abbrev pub appending : Records → List Event
appending new = Event.Append (core_records new) ∷ []
