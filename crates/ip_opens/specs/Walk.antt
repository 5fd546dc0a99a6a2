-- What is found while a store's records are read, stretch by stretch, and in each one behind the other.
--     MayStand s at r      by its kind a record may stand at the offset
--     Tells s found before      what was found is true of these records, and they are good
--     IsPassed, IsRefused s at r found      behind what was found the record is good, or is none.      TakesOne      what taking a record does
--     IsPlaced space at fault      the fault shows the place where the offset lies.      IsUnread      why none was read.      TakesRead      what taking one that was read does
--     Filled s tells told space number found      records of which it was found fill so many stretches
--     Walks s tells told space walk found      they do, and those behind them stand up to where the walk is in its stretch
--     Covers s tells told space found      they fill all stretches
--     BadRecord s told space file place      behind good records, none that is good stands at this place
use Rattle.std.specs.Prelude.{◌≡◌, ◌≢◌, ℕ, ◌+◌, ◌<◌, ◌≤◌, Bool, [], ◌∷◌, ◌++◌, length, take, Some, Result, Ok, Err, IsTrue, slice_get}
use Rattle.ip_ground.specs.declared.names.FileName.{FileName}
use Rattle.ip_ground.specs.Told.{Told}
use Rattle.ip_spec.specs.declared.kind.TheConstants as kinds
use Rattle.ip_spec.specs.declared.record.Record.{Record}
use Rattle.ip_spec.specs.Record.{Names, Fits, kind_of, spelling}
use Rattle.ip_spec.specs.TreeAt.{Records}
use Rattle.ip_image.specs.declared.slot.Slot.{Slot}
use Rattle.ip_image.specs.Slot.{IsSlot}
use Rattle.ip_image.specs.Virtual.{lies_at, Stands}
use Rattle.ip_image.specs.Standing.{terms_of, EndToEnd, RunByRun, FillTo, IsServedKind, IsGood, AreGood, named}
use Rattle.ip_audit.specs.Audits.{Audited, IsBeyond}
use Rattle.ip_audit.specs.declared.audit.AuditFault.{AuditFault}
use Rattle.ip_history.specs.History.{HasParentsFirst}
use Rattle.ip_space.specs.SpaceView.{SpaceView, IsReadable, byte_at, stretches_of, AreBelow}
use Rattle.ip_space.specs.Scanning.{IsCurrent}
use Rattle.ip_space.specs.declared.fault.FetchFault.{FetchFault}
use Rattle.ip_tables.specs.Histories.{history_in}
use Rattle.ip_held.specs.Placed.{places_in, AreRising}
use Rattle.ip_opens.specs.declared.opening.OpenFault.{OpenFault}
use Rattle.ip_opens.specs.declared.walk.Found.{Found}
use Rattle.ip_opens.specs.declared.walk.Walk.{Walk}

-- below the horizon only parts of trees, and at the horizon of a live generation its commit
pub record MayStand (s : Slot) (at : ℕ) (r : Record) : Type 0 where
  pub served : IsServedKind r
  pub kept_kind : at < s.horizon → kind_of r ≤ kinds.INODE
  pub first : s.live ≢ 0 → at ≡ s.horizon → kind_of r ≡ kinds.COMMIT

pub record Tells (s : Slot) (found : Found) (before : Records) : Type 0 where
  pub good : AreGood s [] before
  pub audited : Audited found.audit before
  pub terms : found.audit.terms ≡ terms_of s
  pub places : found.places ≡ places_in before
  pub rising : AreRising s.horizon found.places
  pub branches : found.branches ≡ named Names.branches before
  pub history : found.history ≡ history_in s.floor before
  pub parents_first : HasParentsFirst found.history

-- it is true of some records that lie below this offset
abbrev pub TellsSome : ℕ → Found → Type 0
TellsSome at found = (s : Slot) × (before : Records) × IsSlot s × Tells s found before × IsBeyond at before

-- behind what was found, the record is no good one
abbrev pub IsRefused : Slot → ℕ → Record → Found → Type 0
IsRefused s at r found = (before : Records) → Tells s found before → IsBeyond at before → ¬ IsGood s before (at, r)

-- behind what was found it is good: want of memory hides no fault of a record
abbrev pub IsPassed : Slot → ℕ → Record → Found → Type 0
IsPassed s at r found = (before : Records) → Tells s found before → IsBeyond at before → IsGood s before (at, r)

abbrev pub TakesOne : ℕ → Record → Found → Found → Result (Unit {0}) AuditFault → Type 0
TakesOne at r old new (Ok u) = (s : Slot) (before : Records) → IsSlot s → Fits s.version r → MayStand s at r → Tells s old before → IsBeyond at before → IsGood s before (at, r) × Tells s new (before ++ (at, r) ∷ [])
TakesOne at r old new (Err AuditFault.Fails) = (s : Slot) → IsSlot s → IsRefused s at r old
TakesOne at r old new (Err AuditFault.Memory) = (s : Slot) → IsSlot s → Fits s.version r → MayStand s at r → IsPassed s at r old

-- it shows the place where this offset lies
abbrev pub IsPlaced : SpaceView → ℕ → OpenFault → Type 0
IsPlaced space at (OpenFault.Damaged file place) = lies_at space.layout space.runs at ≡ Some (file, place)
IsPlaced space at OpenFault.NoStore = ⊥
IsPlaced space at OpenFault.Ground = ⊥
IsPlaced space at OpenFault.Memory = ⊥

abbrev pub IsUnread : SpaceView → FetchFault → OpenFault → Type 0
IsUnread space FetchFault.Ground out = out ≡ OpenFault.Ground
IsUnread space (FetchFault.Form at fault) out = IsPlaced space at out
IsUnread space (FetchFault.Name at want got) out = ⊥
IsUnread space FetchFault.Memory out = out ≡ OpenFault.Memory

abbrev pub TakesRead : Slot → SpaceView → ℕ → Record → Found → Found → Result (Unit {0}) OpenFault → Type 0
TakesRead s space at r old new (Ok u) = (before : Records) → Tells s old before → IsBeyond at before → IsGood s before (at, r) × Tells s new (before ++ (at, r) ∷ [])
TakesRead s space at r old new (Err (OpenFault.Damaged file place)) = IsPlaced space at (OpenFault.Damaged file place) × IsRefused s at r old
TakesRead s space at r old new (Err OpenFault.NoStore) = ⊥
TakesRead s space at r old new (Err OpenFault.Ground) = ⊥
TakesRead s space at r old new (Err OpenFault.Memory) = IsPassed s at r old

pub record Filled (s : Slot) (tells : Bool) (told : Told) (space : SpaceView) (number : ℕ) (found : Found) : Type 0 where
  pub records : Records
  pub true_of : Tells s found records
  pub below : (at : ℕ) → AreBelow at (take number (stretches_of space)) → IsBeyond at records
  pub within : IsBeyond space.layout.end records
  pub fill : IsTrue tells → IsReadable told space → RunByRun (byte_at told space) (take number (stretches_of space)) records

-- What the walk read ahead is current.
pub record Walks (s : Slot) (tells : Bool) (told : Told) (space : SpaceView) (walk : Walk) (found : Found) : Type 0 where
  pub here : slice_get (stretches_of space) walk.number ≡ Some walk.stretch
  pub from : walk.stretch.at ≤ walk.scan.next
  pub to : walk.scan.to ≡ walk.stretch.at + walk.stretch.length
  pub inside : walk.scan.next ≤ walk.scan.to
  pub below : walk.scan.to ≤ space.layout.end
  -- those of the stretches before it, and of its own
  pub before : Records
  pub behind : Records
  pub true_of : Tells s found (before ++ behind)
  pub beyond : IsBeyond walk.scan.next (before ++ behind)
  pub fill : IsTrue tells → IsReadable told space → RunByRun (byte_at told space) (take walk.number (stretches_of space)) before
  pub lies : IsTrue tells → IsReadable told space → EndToEnd (byte_at told space) walk.stretch.at behind walk.scan.next
  pub current : IsTrue tells → IsReadable told space → IsCurrent told space walk.scan

pub record Covers (s : Slot) (tells : Bool) (told : Told) (space : SpaceView) (found : Found) : Type 0 where
  pub records : Records
  pub true_of : Tells s found records
  pub within : IsBeyond space.layout.end records
  pub fill : IsTrue tells → IsReadable told space → RunByRun (byte_at told space) (stretches_of space) records

-- Behind good records that fill the stretches up to an offset, none that is good stands at it and ends within its stretch.
pub record BadRecord (s : Slot) (told : Told) (space : SpaceView) (file : FileName) (place : ℕ) : Type 0 where
  pub before : Records
  pub good : AreGood s [] before
  pub at : ℕ
  pub to : ℕ
  pub fill : FillTo (byte_at told space) (stretches_of space) before at to
  pub none : (r : Record) → at + length (spelling r) ≤ to → Stands (byte_at told space) at (spelling r) → ¬ IsGood s before (at, r)
  pub here : lies_at space.layout space.runs at ≡ Some (file, place)
