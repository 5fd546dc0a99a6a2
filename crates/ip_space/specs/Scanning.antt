-- What a walk over records answers.
--     IsCurrent told space scan      what was read ahead is what stands there
--     Moves old new result      where the walk is then.      Finds records at result      what it found at a place
--     IsWhole bytes_at end at found      the bytes of a record stand there, below the end.      FindsWhole bytes_at end at result      so do those of the record that it found
--     RunsTo records from to      records lie end to end between the places: with this, no form is wrong
--     IsWalked records old new result      then a walk goes on to its end
use Rattle.std.specs.Prelude.{◌≡◌, ℕ, ◌+◌, ◌<◌, ◌≤◌, length, Option, Some, None, Result, Ok, Err}
use Rattle.ip_ground.specs.Told.{Told}
use Rattle.ip_spec.specs.declared.record.Record.{Record}
use Rattle.ip_spec.specs.declared.record.RecordFault.{RecordFault}
use Rattle.ip_spec.specs.Record.{spelling}
use Rattle.ip_image.specs.Virtual.{Stands}
use Rattle.ip_space.specs.SpaceView.{SpaceView, byte_at}
use Rattle.ip_space.specs.Ahead.{Shows}
use Rattle.ip_space.specs.ScanView.{ScanView}
use Rattle.ip_space.specs.declared.fault.FetchFault.{FetchFault}
use Rattle.ip_space.specs.declared.fault.FetchFault.TheVariants.{Ground, Form, Name, Memory}

abbrev pub IsCurrent : Told → SpaceView → ScanView → Type 0
IsCurrent told space scan = Shows (byte_at told space) space.layout.end scan.next scan.ahead

-- it is where it was, and goes as far
pub record Stays (old new : ScanView) : Type 0 where
  pub next : new.next ≡ old.next
  pub to : new.to ≡ old.to

-- a record was at the next place; the walk goes on behind it
pub record Steps (old new : ScanView) (at : ℕ) (found : Record) : Type 0 where
  pub more : old.next < old.to
  pub place : at ≡ old.next
  pub next : new.next ≡ at + length (spelling found)
  pub to : new.to ≡ old.to

-- at the end there is nothing, and nowhere else
abbrev pub Moves : ScanView → ScanView → Result (Option (ℕ × Record)) FetchFault → Type 0
Moves old new (Ok None) = (old.to ≤ old.next) × Stays old new
Moves old new (Ok (Some (at, found))) = Steps old new at found
Moves old new (Err fault) = (old.next < old.to) × Stays old new

abbrev pub Finds : (ℕ → Option Record) → ℕ → Result (Option (ℕ × Record)) FetchFault → Type 0
Finds records next (Ok None) = Unit {0}
Finds records next (Ok (Some (at, found))) = records next ≡ Some found
Finds records next (Err Ground) = Unit {0}
Finds records next (Err (Form at fault)) = records next ≡ None
Finds records next (Err (Name at want got)) = ⊥
Finds records next (Err Memory) = Unit {0}

abbrev pub IsWhole : (ℕ → Option ℕ) → ℕ → ℕ → Record → Type 0
IsWhole bytes_at end at found = Stands bytes_at at (spelling found) × (at + length (spelling found) ≤ end)

abbrev pub FindsWhole : (ℕ → Option ℕ) → ℕ → ℕ → Result (Option (ℕ × Record)) FetchFault → Type 0
FindsWhole bytes_at end next (Ok None) = Unit {0}
FindsWhole bytes_at end next (Ok (Some (at, found))) = IsWhole bytes_at end next found
FindsWhole bytes_at end next (Err fault) = Unit {0}

-- the fault of the form says why
abbrev pub IsScanBecause : Result (Record × ℕ) RecordFault → Result (Option (ℕ × Record)) FetchFault → Type 0
IsScanBecause read (Err (Form at fault)) = read ≡ Err fault
IsScanBecause read result = Unit {0}

pub data RunsTo (records : ℕ → Option Record) : ℕ → ℕ → Type 0 where
  at_the_end : {to : ℕ} → RunsTo records to to
  behind : {from to : ℕ} (found : Record) → records from ≡ Some found → RunsTo records (from + length (spelling found)) to → RunsTo records from to

-- where records lie end to end up to the walk's end: it is there, or they do so from where it is then
abbrev pub IsWalked : (ℕ → Option Record) → ScanView → ScanView → Result (Option (ℕ × Record)) FetchFault → Type 0
IsWalked records old new (Ok None) = old.next ≡ old.to
IsWalked records old new (Ok (Some found)) = RunsTo records new.next new.to
IsWalked records old new (Err Ground) = RunsTo records new.next new.to
IsWalked records old new (Err (Form at fault)) = ⊥
IsWalked records old new (Err (Name at want got)) = ⊥
IsWalked records old new (Err Memory) = RunsTo records new.next new.to
