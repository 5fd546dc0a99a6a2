-- A durable step on the chunks and the control file.
--     front_in fields end image      the bytes of the records before it
--     StandsAs size from live bytes image      this slot is live, and these bytes stand in the chunks
--     CanStep end slot fields told      what a step begins with
--     MakesStep end bytes slot fields result old new      what it does
--     IsWritten size from to file      the files that it may change.      WritesTo size from to old new      none but these, and no byte of a chunk from the latter place on
--     TurnsGate slot fields result old new      what making a slot live does that names no more bytes
--     MayChange image file      those that a call may change which keeps the image's store.      IsOfStore file      and any such call
use Rattle.std.specs.Prelude.{◌≡◌, ◌⊎◌, ℕ, ◌-◌, ◌≤◌, ◌+◌, List, ◌++◌, length, Result, OnOk}
use Rattle.ip_ground.specs.declared.names.FileName.{FileName}
use Rattle.ip_ground.specs.declared.names.FileName.TheVariants.{Control}
use Rattle.ip_ground.specs.declared.names.GroundFault.{GroundFault}
use Rattle.ip_ground.specs.Contents.{Image}
use Rattle.ip_ground.specs.Told.{Told, EachImage, EachSince, ChangesOnly, IsSynced}
use Rattle.ip_image.specs.declared.slot.Slot.{Slot}
use Rattle.ip_image.specs.Slot.{slot_bytes}
use Rattle.ip_image.specs.Pending.{HasLive}
use Rattle.ip_chunks.specs.Places.{chunk_start, chunk_byte, NoGap, IsChunk, IsChunkBetween, IsChunkFrom}
use Rattle.ip_chunks.specs.Fronts.{Holds, Leaves, bytes_from}
use Rattle.ip_control.specs.Live.{Live, live_slot, live_of, IsNewer, SameBesides}
use Rattle.ip_control.specs.Changes.{control, IsReady, ChangesSlot}

-- from the slot's horizon up to the end
abbrev pub front_in : Slot → ℕ → Image → List ℕ
front_in fields end image = bytes_from fields.chunk image fields.horizon (end - fields.horizon)

abbrev pub StandsAs : ℕ → ℕ → Live → List ℕ → Image → Type 0
StandsAs size from live bytes image = (live_of (image Control) ≡ live) × Holds size from bytes image

pub record CanStep (end slot : ℕ) (fields : Slot) (told : Told) : Type 0 where
  pub above : fields.horizon ≤ end
  -- from the horizon, and from the start of the chunk, up to the end there is no gap
  pub filled : NoGap fields.chunk told.held fields.horizon end
  pub reaches : NoGap fields.chunk told.held (chunk_start fields.chunk end) end
  pub ready : IsReady slot told
  pub newer : IsNewer fields.sequence (live_of (control told))

-- the control file, or a chunk that holds a place of the range
abbrev pub IsWritten : ℕ → ℕ → ℕ → FileName → Type 0
IsWritten size from to file = (file ≡ Control) ⊎ IsChunkBetween size from to file

pub record WritesTo (size from to : ℕ) (old new : Told) : Type 0 where
  pub only : ChangesOnly (IsWritten size from to) old new
  pub behind : (at : ℕ) → to ≤ at → chunk_byte size new.held at ≡ chunk_byte size old.held at

-- the control file, or a chunk that holds a place behind the records of the live slot
abbrev pub MayChange : Image → FileName → Type 0
MayChange image file = (file ≡ Control) ⊎ ((s : Slot) × HasLive s image × IsChunkFrom s.chunk s.end file)

-- the control file, or a chunk
abbrev pub IsOfStore : FileName → Type 0
IsOfStore file = (file ≡ Control) ⊎ IsChunk file

pub record MakesStep (end : ℕ) (bytes : List ℕ) (slot : ℕ) (fields : Slot) (result : Result (Unit {0}) GroundFault) (old new : Told) : Type 0 where
  pub writes : WritesTo fields.chunk end (end + length bytes) old new
  -- of the control file nothing but this slot changes at any moment, by what a crash may leave and by what it reads as
  pub inside : EachSince old new Control (SameBesides slot (control old))
  pub slots : SameBesides slot (control old) (control new)
  -- Ok: the records are there, the slot is live, nothing of the control file is pending, and a crash leaves the records where it left those before
  pub held : OnOk result (StandsAs fields.chunk fields.horizon (live_slot slot (slot_bytes fields)) (front_in fields end old.held ++ bytes) new.held)
  pub kept : OnOk result (IsSynced new Control)
  pub front : Leaves fields.chunk fields.horizon (front_in fields end old.held) old → OnOk result (Leaves fields.chunk fields.horizon (front_in fields end old.held ++ bytes) new)
  -- where nothing of the records was pending, each image at each moment is as before or as after
  pub images : Leaves fields.chunk fields.horizon (front_in fields end old.held) old
      → EachImage old new (λ said image. StandsAs fields.chunk fields.horizon (live_of (control old)) (front_in fields end old.held) image
      ⊎ StandsAs fields.chunk fields.horizon (live_slot slot (slot_bytes fields)) (front_in fields end old.held ++ bytes) image)

-- Nothing but this slot changes, and at every moment the live one is the one from before or this one. Ok: it is the latter.
pub record TurnsGate (slot : ℕ) (fields : Slot) (result : Result (Unit {0}) GroundFault) (old new : Told) : Type 0 where
  pub changes : ChangesSlot slot old new
  pub live : EachSince old new Control (λ content. (live_of content ≡ live_of (control old)) ⊎ (live_of content ≡ live_slot slot (slot_bytes fields)))
  pub kept : OnOk result (IsSynced new Control)
  pub opens : OnOk result (live_of (control new) ≡ live_slot slot (slot_bytes fields))
