-- A durable step of a store: its plan, and what taking it does.
--     slot_behind s u attempt length commits      the slot behind so many bytes of records and so many commits: this attempt comes next, and this is unswept.      HasRoom s attempt length commits      it may be one
--     entered_tables entry store      the tables once a step has entered there what it says.      entered store step      what the store holds behind it
--     MayEnter store entry, MayTake store bytes step      what a step asks of the tables, and of the slot
--     RestsBy held more      while a collection goes on, records refer to what it keeps alone, below its horizon
--     IsStep held after more bytes step      the step leads from what the store holds to this repository, by these records behind the others
--     IsMade made result      records were appended, where `made` says which values have
--     Grew made held result now new      what was done to the records by an answer: each is there still, and the core goes on by one event, or by none
--     Took made held after more result now new      and to the repository: at every moment a crash leaves the one before it or this one, behind its answer this one alone
use Rattle.std.specs.List.{AllByRecursion}
use Rattle.std.specs.Prelude.{◌≡◌, ◌⊎◌, ℕ, ◌+◌, ◌-◌, ◌<◌, ◌≤◌, Bool, [], ◌∷◌, ◌++◌, length, position, Contains, Option, Some, None, Result, Ok, Err, IsTrue}
use Rattle.ip_base.specs.declared.limit.TheConstants.{OFFSET_MAX}
use Rattle.ip_ground.specs.Contents.{Image}
use Rattle.ip_ground.specs.Told.{Told}
use Rattle.ip_spec.specs.declared.record.Record.{Record}
use Rattle.ip_spec.specs.Batch.{AreEndToEnd}
use Rattle.ip_spec.specs.Map.{insert}
use Rattle.ip_spec.specs.Path.{Bytes, same_bytes}
use Rattle.ip_spec.specs.Record.{Names, Fits}
use Rattle.ip_spec.specs.Repository.{Repository}
use Rattle.ip_spec.specs.TreeAt.{Records}
use Rattle.ip_image.specs.declared.slot.Slot.{Slot}
use Rattle.ip_image.specs.Slot.{newest_version}
use Rattle.ip_image.specs.Appending.{AddsBytes, bytes_of_records}
use Rattle.ip_image.specs.Pending.{HasLive, NothingPending}
use Rattle.ip_image.specs.Standing.{StandsFor, names_after}
use Rattle.ip_image.proofs.PairLaws.{Has}
use Rattle.ip_image.proofs.StayingRecords.{In, refs_of}
use Rattle.ip_publish.specs.Publishing.{WritesTo}
use Rattle.ip_space.specs.SpaceView.{grown}
use Rattle.ip_tables.specs.Histories as histories
use Rattle.ip_held.specs.declared.collection.Collection.{Collection}
use Rattle.ip_held.specs.declared.collection.Unswept.{Unswept}
use Rattle.ip_held.specs.declared.fault.StoreFault.{StoreFault}
use Rattle.ip_held.specs.declared.held.Held.{Held}
use Rattle.ip_held.specs.declared.step.Entry.{Entry}
use Rattle.ip_held.specs.declared.step.Step.{Step}
use Rattle.ip_held.specs.Changes.{Changes, HasAnswer}
use Rattle.ip_held.specs.Clear.{KeepsClear}
use Rattle.ip_held.specs.Collecting.{Collects}
use Rattle.ip_held.specs.Fronts.{LeavesFront}
use Rattle.ip_held.specs.Held.{IsOf, Holds, image_records}
use Rattle.ip_held.specs.Placed.{places_in}
use Rattle.ip_held.specs.Slots.{KeepsSlots}
use Rattle.ip_held.specs.Tie.{appending}
use Rattle.ip_held.specs.TieAppends.{IsTiedAnswer}
use Rattle.ip_held.specs.Trees.{RecordsStay}

-- ---- the slot

abbrev pub slot_behind : Slot → Unswept → ℕ → ℕ → ℕ → Slot
slot_behind s u attempt length commits =
    record s { sequence = s.sequence + 1; end = s.end + length; next = s.next + commits; next_attempt = attempt; first_chunk = u.chunk; first_attempt = u.attempt }

-- one attempt is drawn at most, and there are no more commits than bytes
pub record HasRoom (s : Slot) (attempt length commits : ℕ) : Type 0 where
  pub drawn : s.next_attempt ≤ attempt
  pub one : attempt ≤ s.next_attempt + 1
  pub attempts : attempt ≤ OFFSET_MAX
  pub ends : s.end + length ≤ OFFSET_MAX
  pub sequence : s.sequence < OFFSET_MAX
  pub few : commits ≤ length

-- ---- the tables

abbrev pub entered_tables : Entry → Held → Held
entered_tables (Entry.Commit name parents branch place) store =
    record store { names = store.names ++ name ∷ []; places = store.places ++ place ∷ []; branches = insert store.branches branch store.slot.next; history = histories.with_parents store.history parents }
entered_tables (Entry.Branch x) store = record store { branches = names_after Names.branches store.branches x }
entered_tables Entry.Nothing store = store

abbrev pub entered : Held → Step → Held
entered store step = record (entered_tables step.entry store) { index = 1 - store.index; slot = step.slot; space = grown store.space step.slot.end }

-- a new name, and parents that come before it
abbrev pub MayEnter : Held → Entry → Type 0
MayEnter store (Entry.Commit name parents branch place) = (position (λ n. same_bytes n name) store.names ≡ None) × histories.MayEnter store.history parents
MayEnter store entry = Unit {0}

pub record MayTake (store : Held) (bytes : Bytes) (step : Step) : Type 0 where
  pub enters : MayEnter store step.entry
  pub attempt : ℕ
  pub commits : ℕ
  pub slot : step.slot ≡ slot_behind store.slot store.unswept attempt (length bytes) commits
  pub room : HasRoom store.slot attempt (length bytes) commits
  pub some : 0 < length bytes

-- ---- the step

abbrev pub RestsBy : {store : Held} {told : Told} {r : Repository} → Holds store told r → Records → Option Collection → Type 0
RestsBy {store = store} {told = told} {r = r} held more o =
    (c : Collection) → o ≡ Some c → (is : Collects told store.slot held.stands.standing.records r c) → (x : ℕ × Record) → Has more x → (at : ℕ) → In (refs_of x.1) at → (c.job.horizon ≤ at) ⊎ Contains is.kept at

-- each within the bounds of the newest version of the format
abbrev pub AreNewest : Records → Type 0
AreNewest records = AllByRecursion (λ (x : ℕ × Record). Fits newest_version x.1) records

-- An image that goes on with the bytes behind those of the store's records, and has the step's slot live, stands for the repository.
pub record IsStep {store : Held} {told : Told} {r : Repository} (held : Holds store told r) (after : Repository) (more : Records) (bytes : Bytes) (step : Step) : Type 0 where
  pub spelled : bytes ≡ bytes_of_records more
  pub newest : AreNewest more
  pub lie : AreEndToEnd store.slot.end more step.slot.end
  pub tables : IsOf (entered store step) after
  pub placed : (entered store step).places ≡ store.places ++ places_in more
  pub rests : RestsBy held more store.collection
  pub stands : (image : Image) → HasLive step.slot image → AddsBytes store.slot bytes told.held image → StandsFor image after

-- it is a value of which `made` says that records were appended
abbrev pub IsMade : {A : Type 0} → (A → Bool) → Result A StoreFault → Type 0
IsMade made (Ok value) = IsTrue (made value)
IsMade made (Err fault) = ⊥

-- whichever repository an image with the bytes may stand for
pub record Grew {A : Type 0} (made : A → Bool) {store : Held} {old : Told} {r : Repository} (held : Holds store old r) (result : Result A StoreFault) (now : Held) (new : Told) : Type 0 where
  pub stay : HasAnswer result → (q : Repository) (still : Holds now new q) → RecordsStay (image_records held) (image_records still)
  pub tied : (q : Repository) (still : Holds now new q) → IsTiedAnswer made result store held.stands.standing.records now still.stands.standing.records

pub record Took {A : Type 0} (made : A → Bool) {store : Held} {old : Told} {r : Repository} (held : Holds store old r) (after : Repository) (more : Records) (result : Result A StoreFault) (now : Held) (new : Told) : Type 0 where
  pub changes : Changes r after result now old new
  pub list : IsMade made result → (q : Repository) (still : Holds now new q) → still.stands.standing.records ≡ held.stands.standing.records ++ more
  pub clear : HasAnswer result → KeepsClear store now old new
  -- where nothing was pending a crash at any moment, within a fault of the ground too, leaves a front of its events
  pub fronts : NothingPending old → LeavesFront store held.stands.standing.records (appending more) old new
  -- and the slot that was live, or the next
  pub slots : NothingPending old → KeepsSlots old new
  -- no byte of a chunk changes behind the records, nor any chunk that holds none of them
  pub writes : WritesTo store.slot.chunk store.slot.end (store.slot.end + length (bytes_of_records more)) old new
