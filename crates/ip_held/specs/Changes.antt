-- What a call does that changes the repository durably.
--     HasAnswer result      it is no fault of the ground or of its files.      IsRefused result      another answer than Ok and those faults
--     IsUndamaged result      it is no fault of the files
--     Changes r after result store old new      what it does to what a ground tells, and what the store holds then
--     next_slot s length commits      the slot of a durable step.      IsNextSlot s length commits result      it, or which limit is met
--     KeepsNumbers store now      no commit is given up, and none is taken back
--     LimitsSpace end result store      which limit is met
--     Appends more commits store now old new      these records stand behind those that there were, and the slot says so
use Rattle.std.specs.Prelude.{◌≡◌, ℕ, ◌+◌, ◌<◌, ◌≤◌, ◌++◌, length, IsErr, IsErrOf, Result, Ok, Err, OnOk}
use Rattle.ip_base.specs.declared.limit.TheConstants.{OFFSET_MAX}
use Rattle.ip_base.specs.declared.limit.Limit.{Limit}
use Rattle.ip_ground.specs.Told.{Told, NoFile, ChangesOnly}
use Rattle.ip_spec.specs.Repository.{Repository}
use Rattle.ip_spec.specs.TreeAt.{Records}
use Rattle.ip_image.specs.declared.slot.Slot.{Slot}
use Rattle.ip_image.specs.Pending.{HasLive, crash_at, crash_now, NothingPending, AllFlushed, KeepsSpace}
use Rattle.ip_image.specs.Headline.{IsAtomic, RecoversTo}
use Rattle.ip_image.specs.Appending.{bytes_of_records}
use Rattle.ip_held.specs.declared.fault.StoreFault.{StoreFault}
use Rattle.ip_held.specs.declared.held.Held.{Held}
use Rattle.ip_held.specs.Collecting.{carried}
use Rattle.ip_publish.specs.Publishing.{MayChange}
use Rattle.ip_held.specs.Held.{Holds}

abbrev pub HasAnswer : {A : Type 0} → Result A StoreFault → Type 0
HasAnswer (Err StoreFault.Ground) = ⊥
HasAnswer (Err (StoreFault.Damaged at names)) = ⊥
HasAnswer result = Unit {0}

-- no call but those that fetch records looks at what others may have changed
abbrev pub IsUndamaged : {A : Type 0} → Result A StoreFault → Type 0
IsUndamaged (Err (StoreFault.Damaged at names)) = ⊥
IsUndamaged result = Unit {0}

abbrev pub IsRefused : {A : Type 0} → Result A StoreFault → Type 0
IsRefused result = IsErr result × HasAnswer result

pub record Changes {A : Type 0} (r after : Repository) (result : Result A StoreFault) (store : Held) (old new : Told) : Type 0 where
  pub only : ChangesOnly (MayChange old.held) old new
  -- a refused call changes nothing
  pub refused : IsRefused result → ChangesOnly NoFile old new × Holds store new r
  pub ok : OnOk result (Holds store new after)
  -- Where nothing was pending: at every moment whatever a crash leaves stands for the repository before or after the call, and once it is answered for the latter alone.
  pub atomic : NothingPending old → IsAtomic old new r after
  pub recovers : NothingPending old → OnOk result (RecoversTo (crash_now new) after)
  pub recovers_refused : NothingPending old → IsRefused result → (t : ℕ) → old.moment ≤ t → t ≤ new.moment → RecoversTo (crash_at new t) r
  -- Once it is answered nothing is pending, and whatever the answer is, nothing is of any image that a crash may leave.
  pub nothing_pending : NothingPending old → HasAnswer result → NothingPending new
  pub flushed : NothingPending old → AllFlushed (crash_now new)
  -- what a child may read that runs meanwhile stays as it was at the start
  pub space : NothingPending old → (s : Slot) → HasLive s old.held → KeepsSpace s old new

-- the slot of a durable step, behind so many bytes of records and so many commits
abbrev pub next_slot : Slot → ℕ → ℕ → Slot
next_slot s length commits = record s { sequence = s.sequence + 1; end = s.end + length; next = s.next + commits }

abbrev pub IsNextSlot : Slot → ℕ → ℕ → Result Slot StoreFault → Type 0
IsNextSlot s length commits (Ok next) = (next ≡ next_slot s length commits) × (s.end + length ≤ OFFSET_MAX) × (s.sequence < OFFSET_MAX)
IsNextSlot s length commits (Err (StoreFault.Limit Limit.Space)) = OFFSET_MAX < s.end + length
IsNextSlot s length commits (Err (StoreFault.Limit Limit.Sequence)) = (s.end + length ≤ OFFSET_MAX) × (OFFSET_MAX ≤ s.sequence)
IsNextSlot s length commits (Err fault) = ⊥

-- each commit that is retained is so still
abbrev pub KeepsNumbers : Held → Held → Type 0
KeepsNumbers store now = (now.slot.floor ≡ store.slot.floor) × (store.slot.next ≤ now.slot.next)

-- the place after the call's records would pass the greatest one, or the slot's sequence is the greatest
pub record LimitsSpace {A : Type 0} (end : ℕ) (result : Result A StoreFault) (store : Held) : Type 0 where
  pub space : IsErrOf result (StoreFault.Limit Limit.Space) → OFFSET_MAX < end
  pub sequence : IsErrOf result (StoreFault.Limit Limit.Sequence) → (end ≤ OFFSET_MAX) × (store.slot.sequence ≡ OFFSET_MAX)
  pub enough : OnOk result ((end ≤ OFFSET_MAX) × (store.slot.sequence < OFFSET_MAX))

-- Of a call that is Ok: these records, and none else, and no number of the slot but its sequence, its end and the next commit's has changed, and it says what is unswept.
pub record Appends (more : Records) (commits : ℕ) (store now : Held) (old new : Told) : Type 0 where
  pub slot : now.slot ≡ next_slot (carried store) (length (bytes_of_records more)) commits
  pub records : (r q : Repository) (before : Holds store old r) (after : Holds now new q) → after.stands.standing.records ≡ before.stands.standing.records ++ more
