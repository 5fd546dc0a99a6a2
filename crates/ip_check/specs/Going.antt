-- The steps of a slice.
--     IsOver told records c      these are the records of a check, and its files stay.      found_of told c      what it finds of the pair
--     Goes most old new      it looks at up to so many records more.      KeepsTrue told old new result      what it found stays true, and no damage is met
--     Blames result c      damage is told of the record that is looked at next.      Breaks told old new result      and what is wrong with it
--     HasStood told old new      no byte is missing of what was compared
--     IsOpen stage      there is no verdict.      next_stage found place      behind a comparison that went up to a place
use Rattle.std.specs.Prelude.{◌≡◌, ◌≢◌, ℕ, ◌+◌, ◌<◌, ◌≤◌, length, Option, Some, None, Result, IsErrOf}
use Rattle.ip_ground.specs.Told.{Told}
use Rattle.ip_spec.specs.declared.reply.Difference.{Difference}
use Rattle.ip_spec.specs.TreeAt.{Records}
use Rattle.ip_image.specs.Collection.{Found, found_in}
use Rattle.ip_space.specs.SpaceView.{IsReadable, byte_at}
use Rattle.ip_keep.specs.Runs.{AreHeld}
use Rattle.ip_keep.specs.Whole.{AreRecords}
use Rattle.ip_check.specs.declared.fault.CheckFault.{CheckFault}
use Rattle.ip_check.specs.declared.check.Stage.{Stage}
use Rattle.ip_check.specs.CheckView.{CheckView}
use Rattle.ip_check.specs.Checking.{IsBlamed, IsBrokenIn, IsCheck, IsChecking, IsFixed, SameCheck, compared_since, looked_by}
use Rattle.ip_check.specs.Faults.{IsUndamaged}

pub record IsOver (told : Told) (records : Records) (c : CheckView) : Type 0 where
  pub readable : IsReadable told c.keep.space
  pub fixed : IsFixed told c.job
  pub whole : AreRecords told.held c.keep.space c.keep.horizon records

abbrev pub found_of : Told → CheckView → Found
found_of told c = found_in told.held c.job.attempt

pub record Goes (most : ℕ) (old new : CheckView) : Type 0 where
  pub check : IsCheck new
  pub same : SameCheck old new
  pub low : looked_by old ≤ looked_by new
  pub high : looked_by new ≤ looked_by old + most

abbrev pub KeepsTrue : {A : Type 0} → Told → CheckView → CheckView → Result A CheckFault → Type 0
KeepsTrue told old new result = (records : Records) → IsOver told records old → IsChecking records (found_of told old) old → IsChecking records (found_of told old) new × IsUndamaged result

abbrev pub Blames : {A : Type 0} → Result A CheckFault → CheckView → Type 0
Blames result c = (at : ℕ) → IsErrOf result (CheckFault.Damaged at) → IsBlamed c at

abbrev pub Breaks : {A : Type 0} → Told → CheckView → CheckView → Result A CheckFault → Type 0
Breaks told old new result = IsReadable told old.keep.space → (at : ℕ) → IsErrOf result (CheckFault.Damaged at) → IsBrokenIn told new at

abbrev pub HasStood : Told → CheckView → CheckView → Type 0
HasStood told old new = IsReadable told old.keep.space → AreHeld (byte_at told old.keep.space) (compared_since old new)

abbrev pub IsOpen : Stage → Type 0
IsOpen stage = (told : Option Difference) → stage ≢ Stage.Through told

-- the verdict, or the place up to which nothing differs
abbrev pub next_stage : Option Difference → ℕ → Stage
next_stage None place = Stage.Comparing place
next_stage (Some found) place = Stage.Through (Some found)

-- a record is to be compared, and may be looked at
pub record HasNext (most : ℕ) (c : CheckView) (place : ℕ) : Type 0 where
  pub some : 1 ≤ most
  pub stage : c.stage ≡ Stage.Comparing place
  pub more : c.compared < length c.keep.kept
