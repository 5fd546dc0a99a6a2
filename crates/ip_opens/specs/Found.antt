-- The beginning and the end of opening a store.
--     FindsSlot result old new      what finding the live slot does.      FindsGeneration image s result      the space over the live generation, or where that is bad
--     Finishes index s found result      what makes a store of it, and of what was found
use Rattle.std.specs.Prelude.{◌≡◌, ◌≢◌, ℕ, ◌*◌, ◌<◌, ◌≤◌, List, map, None, Result, Ok, Err, OnOk, IsSome}
use Rattle.ip_ground.specs.declared.names.FileName.TheVariants.{Control}
use Rattle.ip_ground.specs.Told.{Told, SyncsOnly, Only, IsSynced}
use Rattle.ip_ground.specs.Contents.{Content, Image}
use Rattle.ip_spec.specs.Record.{Names}
use Rattle.ip_spec.specs.TreeAt.{Records}
use Rattle.ip_image.specs.declared.slot.Slot.{Slot}
use Rattle.ip_image.specs.Slot.{IsLive, layout_of}
use Rattle.ip_image.specs.declared.run.Row.{Row}
use Rattle.ip_image.specs.Virtual.{run_of}
use Rattle.ip_image.specs.Standing.{NoStore, DamagedAt, Generation, WholeFits, commits_in, named}
use Rattle.ip_space.specs.Pair.{HasRowsLength, IsBadPair}
use Rattle.ip_space.specs.SpaceView.{SpaceView}
use Rattle.ip_audit.specs.Audits.{commit_name}
use Rattle.ip_history.specs.History.{HasParentsFirst}
use Rattle.ip_opens.specs.declared.opening.OpenFault.{OpenFault}
use Rattle.ip_held.specs.declared.held.Held.{Held}
use Rattle.ip_opens.specs.declared.walk.Found.{Found}
use Rattle.ip_held.specs.Control.{control_in}
use Rattle.ip_tables.specs.Histories.{history_in}
use Rattle.ip_held.specs.Placed.{places_in, IsSpaceOf}
use Rattle.ip_opens.specs.Walk.{Tells}

-- a fault of the ground apart, the slot that is live, or why there is none: it takes no memory
abbrev pub FoundIn : Image → Result (ℕ × Slot) OpenFault → Type 0
FoundIn image (Ok live) = IsLive (control_in image) live.0 live.1
FoundIn image (Err OpenFault.NoStore) = NoStore image
FoundIn image (Err (OpenFault.Damaged file at)) = DamagedAt image file at
FoundIn image (Err OpenFault.Ground) = Unit {0}
FoundIn image (Err OpenFault.Memory) = ⊥

-- every answer but a fault of the ground comes after the sync
abbrev pub IsReached : {A : Type 0} → Result A OpenFault → Type 0
IsReached (Err OpenFault.Ground) = ⊥
IsReached result = Unit {0}

pub record FindsSlot (result : Result (ℕ × Slot) OpenFault) (old new : Told) : Type 0 where
  pub only : SyncsOnly (Only Control) old new
  pub finds : FoundIn new.held result
  pub kept : OnOk result (IsSynced new Control)
  -- the moment of the sync: from then on a crash leaves the control file that is read
  pub since : ℕ
  pub begins : old.moment < since
  pub reached : IsReached result → IsSome (old.held Control) → since ≤ new.moment
  pub left : (t : ℕ) → since ≤ t → t ≤ new.moment → (content : Content) → new.may_leave t Control content → content ≡ new.held Control

-- A fault of the ground says nothing. Memory is wanted only for a mapping of the right length.
abbrev pub FindsGeneration : Image → Slot → Result SpaceView OpenFault → Type 0
FindsGeneration image s (Ok space) = (rows : List Row) × Generation image (layout_of s) rows × (space.runs ≡ map run_of rows)
FindsGeneration image s (Err OpenFault.NoStore) = ⊥
FindsGeneration image s (Err (OpenFault.Damaged file at)) = (s.live ≢ 0) × IsBadPair image (layout_of s) file at
FindsGeneration image s (Err OpenFault.Ground) = Unit {0}
FindsGeneration image s (Err OpenFault.Memory) = s.live ≢ 0 → HasRowsLength image (layout_of s)

-- whatever the records are of which it is true
pub record Finished (number : ℕ) (s : Slot) (found : Found) (store : Held) : Type 0 where
  pub index : store.index ≡ number
  pub slot : store.slot ≡ s
  pub fits : (records : Records) → Tells s found records → WholeFits s records
  pub names : (records : Records) → Tells s found records → map commit_name (commits_in records) ≡ store.names
  pub places : (records : Records) → Tells s found records → places_in records ≡ store.places
  pub space : IsSpaceOf s store.space
  pub branches : (records : Records) → Tells s found records → named Names.branches records ≡ store.branches
  pub history : (records : Records) → Tells s found records → history_in s.floor records ≡ store.history
  pub parents_first : (records : Records) → Tells s found records → HasParentsFirst store.history
  pub idle : store.collection ≡ None
  pub unswept : store.unswept ≡ record { chunk = s.first_chunk; attempt = s.first_attempt }

abbrev pub Finishes : ℕ → Slot → Found → Result Held OpenFault → Type 0
Finishes index s found (Ok store) = Finished index s found store
Finishes index s found (Err fault) = (fault ≡ OpenFault.Damaged Control (128 * index)) × ((records : Records) → Tells s found records → ¬ WholeFits s records)
