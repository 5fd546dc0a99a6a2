-- How the search goes on.
--     Goes tells before after old new      it does: whatever it had found of records is still true, with what it found since
--     Blameless tells before old result      where the records are whole no damage is met
--     Blames result k      damage is told of what is looked at next.      Breaks tells before old new result      and what stands there is none that a whole store has
--     IsAlong k scan      a walk is where the search is, and goes to the end
--     LooksOne old new result      one record more was looked at.      LooksOn most old new result      so many, or fewer where none is left from the horizon on
use Rattle.std.specs.Prelude.{◌≡◌, ℕ, ◌+◌, ◌<◌, ◌≤◌, Bool, IsTrue, Result, Ok, Err, IsErrOf}
use Rattle.ip_ground.specs.Told.{Told, NoFile, ChangesOnly}
use Rattle.ip_spec.specs.TreeAt.{Records}
use Rattle.ip_space.specs.SpaceView.{IsReadable, byte_at, records_of}
use Rattle.ip_space.specs.ScanView.{ScanView}
use Rattle.ip_keep.specs.declared.fault.KeepFault.{KeepFault}
use Rattle.ip_keep.specs.Faults.{IsUndamaged}
use Rattle.ip_keep.specs.KeepView.{KeepView}
use Rattle.ip_keep.specs.Keeping.{IsBlamedKeep, IsBroken, IsKeep, IsKeeping, LeadsDown, SameWork, looked_in}
use Rattle.ip_keep.specs.Runs.{AreHeld}
use Rattle.ip_keep.specs.Whole.{AreRecords}

pub record Goes (tells : Bool) (before after : Told) (old new : KeepView) : Type 0 where
  pub keep : IsKeep new
  pub work : SameWork old new
  pub only : IsTrue tells → ChangesOnly NoFile before after
  pub keeping : IsTrue tells → IsReadable before old.space → (records : Records) → AreRecords before.held old.space old.horizon records → IsKeeping records old → IsKeeping records new
  -- over any files, what is kept was read whole
  pub held : IsTrue tells → IsReadable before old.space → AreHeld (byte_at before old.space) old.kept → AreHeld (byte_at after old.space) new.kept
  -- and no reference that lies ahead was passed over
  pub down : IsTrue tells → IsReadable before old.space → LeadsDown (records_of before old.space) old → LeadsDown (records_of before old.space) new

abbrev pub Blameless : {A : Type 0} → Bool → Told → KeepView → Result A KeepFault → Type 0
Blameless tells before old result = IsTrue tells → IsReadable before old.space → (records : Records) → AreRecords before.held old.space old.horizon records → IsKeeping records old → IsUndamaged result

abbrev pub Blames : {A : Type 0} → Result A KeepFault → KeepView → Type 0
Blames result k = (at : ℕ) → IsErrOf result (KeepFault.Damaged at) → IsBlamedKeep k at

abbrev pub Breaks : {A : Type 0} → Bool → Told → KeepView → KeepView → Result A KeepFault → Type 0
Breaks tells before old new result = IsTrue tells → IsReadable before old.space → (at : ℕ) → IsErrOf result (KeepFault.Damaged at) → IsBroken (records_of before old.space) new at

pub record IsAlong (k : KeepView) (scan : ScanView) : Type 0 where
  pub next : scan.next ≡ k.next
  pub to : scan.to ≡ k.space.layout.end

abbrev pub LooksOne : {A : Type 0} → KeepView → KeepView → Result A KeepFault → Type 0
LooksOne old new (Ok done) = looked_in new ≡ looked_in old + 1
LooksOne old new (Err fault) = looked_in new ≡ looked_in old

abbrev pub LooksOn : ℕ → KeepView → KeepView → Result ℕ KeepFault → Type 0
LooksOn most old new (Ok left) = (looked_in new + left ≡ looked_in old + most) × (left ≤ most) × (0 < left → new.next ≡ new.space.layout.end)
LooksOn most old new (Err fault) = (looked_in old ≤ looked_in new) × (looked_in new ≤ looked_in old + most)
