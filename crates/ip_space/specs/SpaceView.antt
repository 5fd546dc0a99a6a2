-- What a space knows, the records that stand in files under it, and calls that only read them.
--     byte_in image space, byte_at told space      the byte at an offset, if it is there.
--     read_at told space      what the bytes from an offset on are read as
--     records_in image space, records_of told space      the record at each offset
--     stretches_of space      the runs below the horizon, and the stretch from there to the end.      AreBelow at stretches      they end at or below an offset
--     bare space      the same space, of which nothing is kept
--     kept_at at kept      the record that was kept at an offset.      AreCurrent records kept      each kept record is the one that stands there
--     grown space end      the space up to another end.      SameBelow space old new      below the end two images have the same bytes
--     IsLayout layout      what a layout is
--     IsReadable told space      what is read stays so: nobody else changes the files
--     OnlyReads old new space now      a call changed no file at any moment, and the records stay
use Rattle.std.specs.Prelude.{◌≡◌, ◌≢◌, ℕ, ◌+◌, ◌-◌, ◌<◌, ◌≤◌, List, [], ◌∷◌, ◌++◌, Contains, Option, Some, Result, nat_eq}
use Rattle.std.specs.Map.{lookup}
use Rattle.std.specs.List.{AllByRecursion}
use Rattle.ip_base.specs.declared.limit.TheConstants.{OFFSET_MAX}
use Rattle.ip_ground.specs.declared.names.FileName.TheVariants.{Prefix}
use Rattle.ip_ground.specs.Contents.{Image}
use Rattle.ip_ground.specs.Told.{Told, IsForeign, NoFile, ChangesOnly}
use Rattle.ip_spec.specs.declared.record.Record.{Record}
use Rattle.ip_spec.specs.declared.record.RecordFault.{RecordFault}
use Rattle.ip_spec.specs.Reading.{reading}
use Rattle.ip_image.specs.declared.layout.Layout.{Layout}
use Rattle.ip_image.specs.Slot.{newest_version, IsChunkSize}
use Rattle.ip_image.specs.declared.run.Run.{Run}
use Rattle.ip_image.specs.Virtual.{virtual_byte}
use Rattle.ip_image.specs.Stored.{bytes_from, stored}

-- the layout, the runs of the mapping that was read, and records that were fetched, each with its offset
pub record SpaceView : Type 0 where
  pub layout : Layout
  pub runs : List Run
  pub kept : List (ℕ × Record)

abbrev pub kept_at : ℕ → List (ℕ × Record) → Option Record
kept_at at kept = lookup (nat_eq at) kept

abbrev pub AreCurrent : (ℕ → Option Record) → List (ℕ × Record) → Type 0
AreCurrent records kept = (at : ℕ) (r : Record) → Contains kept (at, r) → records at ≡ Some r

abbrev pub records_in : Image → SpaceView → ℕ → Option Record
records_in image space = stored image space.layout space.runs

abbrev pub records_of : Told → SpaceView → ℕ → Option Record
records_of told space = records_in told.held space

abbrev pub byte_in : Image → SpaceView → ℕ → Option ℕ
byte_in image space = virtual_byte image space.layout space.runs

abbrev pub byte_at : Told → SpaceView → ℕ → Option ℕ
byte_at told space = byte_in told.held space

abbrev pub stretches_of : SpaceView → List Run
stretches_of space = space.runs ++ record { at = space.layout.horizon; length = space.layout.end - space.layout.horizon } ∷ []

abbrev pub AreBelow : ℕ → List Run → Type 0
AreBelow at stretches = AllByRecursion (λ run. run.at + run.length ≤ at) stretches

-- the same space, of which nothing is kept
abbrev pub bare : SpaceView → SpaceView
bare space = record space { kept = [] }

-- the space up to another end
abbrev pub grown : SpaceView → ℕ → SpaceView
grown space end = record space { layout = record space.layout { end = end } }

-- below the end the bytes are the same
abbrev pub SameBelow : SpaceView → Image → Image → Type 0
SameBelow space old new = (at : ℕ) → at < space.layout.end → byte_in new space at ≡ byte_in old space at

-- the record that the bytes from an offset up to the end begin with, and its length, or why they begin with none
abbrev pub read_at : Told → SpaceView → ℕ → Result (Record × ℕ) RecordFault
read_at told space at = reading newest_version (bytes_from (byte_at told space) at (space.layout.end - at))

-- Where no generation of a collection is live, nothing lies below the horizon, as in a slot.
pub record IsLayout (layout : Layout) : Type 0 where
  pub chunk : IsChunkSize layout.chunk
  pub order : layout.horizon ≤ layout.end
  pub ends : layout.end ≤ OFFSET_MAX
  pub nothing_below : layout.live ≡ 0 → layout.horizon ≡ 0

-- the live prefix is no child's, where none is live there are no runs, and what was kept stands
pub record IsReadable (told : Told) (space : SpaceView) : Type 0 where
  pub own : space.layout.live ≢ 0 → ¬ IsForeign told (Prefix space.layout.live)
  pub none : space.layout.live ≡ 0 → space.runs ≡ []
  pub kept : AreCurrent (records_of told space) space.kept

pub record OnlyReads (old new : Told) (space now : SpaceView) : Type 0 where
  pub only : ChangesOnly NoFile old new
  pub layout : now.layout ≡ space.layout
  pub runs : now.runs ≡ space.runs
  pub readable : IsReadable old space → IsReadable new now
  pub records : IsReadable old space → (at : ℕ) → records_of new now at ≡ records_of old space at
