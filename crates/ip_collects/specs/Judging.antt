-- The verdict on what a child wrote.
--     is_zero exit      the child ended with code 0.      FitsRejection exit rejection      why it is rejected.      FitsExit exit result      nothing is checked where it did not
--     EndsCheck result now      where the pair is valid the check that is kept says so.      with_check store c check      the store with a check
--     IsThrough now      a check is kept that has found the pair valid
--     SlicesBy most c result now      what a slice leaves that is not the last.      IsOpen result      the check is not through
--     TellsVerdict records c told result      what the verdict says of the files
--     IsCut fault      it is one of a check
--     IsRootless horizon check at, IsRootlessIn now at      the check is through, and the commit's record lies where none can.      IsBlamedIn now at      where damage may be found: there, or at a record that the check looks at.      IsDamagedIn told now at      and what is wrong with it
--     FindsNone now      the check that is kept, if one is, is not through with a difference
--     verdict_by outcome left      what an answer of the check says
--     IsCheckOf c over k      a check of a collection's files, over a store's space.      IsNextCheck c over k      the one that goes on
use Rattle.std.specs.Prelude.{◌≡◌, ◌≢◌, ◌⊎◌, ℕ, pos, Option, Some, None, Result, Ok, Err, IsSomeAnd, IfSome}
use Rattle.ip_base.specs.declared.exit.Exit.{Exit}
use Rattle.ip_base.specs.declared.exit.Exit.TheVariants as Exit
use Rattle.ip_ground.specs.Contents.{Image}
use Rattle.ip_ground.specs.Told.{Told}
use Rattle.ip_spec.specs.declared.reply.Difference.{Difference}
use Rattle.ip_spec.specs.TreeAt.{Records}
use Rattle.ip_image.specs.Collection.{Found, found_in}
use Rattle.ip_space.specs.SpaceView.{SpaceView, bare, grown}
use Rattle.ip_keep.specs.Whole.{AreRecords}
use Rattle.ip_check.specs.CheckView.{CheckView}
use Rattle.ip_check.specs.Checking.{IsBlamed, IsBrokenIn, IsCheck, IsChecking, IsVerdict, looked_by}
use Rattle.ip_check.specs.declared.check.Outcome.{Outcome}
use Rattle.ip_check.specs.declared.check.Outcome.TheVariants as Outcome
use Rattle.ip_check.specs.declared.fault.CheckFault.{CheckFault}
use Rattle.ip_check.specs.declared.check.Stage.TheVariants as Stage
use Rattle.ip_collects.specs.declared.checking.Verdict.{Verdict}
use Rattle.ip_collects.specs.declared.checking.Verdict.TheVariants as Verdict
use Rattle.ip_held.specs.declared.collection.Collection.{Collection}
use Rattle.ip_collects.specs.declared.finishing.FinishFault.{FinishFault}
use Rattle.ip_collects.specs.declared.finishing.Rejection.{Rejection}
use Rattle.ip_held.specs.declared.held.Held.{Held}
use Rattle.ip_held.specs.Collecting.{until}
use Rattle.ip_collects.specs.Finishing.{IsSliced, fault_by, looked_at}

abbrev pub is_zero : Exit → Type 0
is_zero exit = exit ≡ Exit.Code (pos 0)

-- the faults of a check
abbrev pub IsCut : FinishFault → Type 0
IsCut FinishFault.Ground = Unit {0}
IsCut (FinishFault.Damaged at) = Unit {0}
IsCut FinishFault.Memory = Unit {0}
IsCut fault = ⊥

-- a commit's record never lies at 0, since its root lies below it
abbrev pub IsRootless : ℕ → CheckView → ℕ → Type 0
IsRootless horizon check at = (at ≡ 0) × (horizon ≡ 0) × (check.stage ≡ Stage.Through None)

-- the collection that is kept, and the check that it keeps
abbrev pub IsRootlessIn : Option Collection → ℕ → Type 0
IsRootlessIn now at = IsSomeAnd now (λ c. IsSomeAnd c.check (λ k. IsRootless c.job.horizon k at))

abbrev pub IsBlamedIn : Option Collection → ℕ → Type 0
IsBlamedIn now at = IsSomeAnd now (λ c. IsSomeAnd c.check (λ k. IsRootless c.job.horizon k at ⊎ IsBlamed k at))

abbrev pub IsDamagedIn : Told → Option Collection → ℕ → Type 0
IsDamagedIn told now at = IsSomeAnd now (λ c. IsSomeAnd c.check (λ k. IsRootless c.job.horizon k at ⊎ IsBrokenIn told k at))

abbrev pub FindsNone : Option Collection → Type 0
FindsNone now = IsSomeAnd now (λ c. IfSome c.check (λ k. (difference : Difference) → k.stage ≢ Stage.Through (Some difference)))

abbrev pub FitsRejection : Exit → Rejection → Type 0
FitsRejection exit (Rejection.Exit e) = (e ≡ exit) × ¬ is_zero exit
FitsRejection exit (Rejection.Differs difference) = is_zero exit

abbrev pub FitsExit : Exit → Result Verdict FinishFault → Type 0
FitsExit exit (Ok (Verdict.Rejected rejection)) = FitsRejection exit rejection
FitsExit exit (Ok verdict) = is_zero exit
FitsExit exit (Err fault) = is_zero exit × IsCut fault

abbrev pub IsThrough : Option Collection → Type 0
IsThrough now = IsSomeAnd now (λ c. IsSomeAnd c.check (λ check. check.stage ≡ Stage.Through None))

abbrev pub EndsCheck : Result Verdict FinishFault → Option Collection → Type 0
EndsCheck (Ok Verdict.Valid) now = IsThrough now
EndsCheck result now = Unit {0}

abbrev pub SlicesBy : ℕ → Collection → Result Verdict FinishFault → Option Collection → Type 0
SlicesBy most c (Ok (Verdict.Open left)) now = IsSliced most c left now
SlicesBy most c result now = Unit {0}

abbrev pub IsOpen : Result Verdict FinishFault → Type 0
IsOpen (Ok (Verdict.Open left)) = Unit {0}
IsOpen result = ⊥

abbrev pub verdict_by : Result Outcome CheckFault → ℕ → Result Verdict FinishFault
verdict_by (Ok Outcome.More) left = Ok (Verdict.Open left)
verdict_by (Ok Outcome.Valid) left = Ok Verdict.Valid
verdict_by (Ok (Outcome.Differs difference)) left = Ok (Verdict.Rejected (Rejection.Differs difference))
verdict_by (Err fault) left = Err (fault_by fault)

pub record IsCheckOf (c : Collection) (over : SpaceView) (k : CheckView) : Type 0 where
  pub check : IsCheck k
  pub job : k.job ≡ c.job
  pub space : k.keep.space ≡ bare (grown over c.job.end)

-- the one that is kept, or one that begins
pub record IsNextCheck (c : Collection) (over : SpaceView) (k : CheckView) : Type 0 where
  pub of : IsCheckOf c over k
  pub looked : looked_by k ≡ looked_at c
  pub checking : (image : Image) (records : Records) (found : Found) → AreRecords image (bare (grown over c.job.end)) c.job.horizon records → IfSome c.check (IsChecking records found) → IsChecking records found k

abbrev pub with_check : Held → Collection → Option CheckView → Held
with_check store c check = record store { collection = Some (record c { check = check }) }

-- an exit other than 0 and a check that is not through say nothing of them
abbrev pub TellsVerdict : Records → Collection → Told → Result Verdict FinishFault → Type 0
TellsVerdict records c told (Ok (Verdict.Open left)) = Unit {0}
TellsVerdict records c told (Ok Verdict.Valid) = IsVerdict (until c.job.end records) c.job (found_in told.held c.job.attempt) None
TellsVerdict records c told (Ok (Verdict.Rejected (Rejection.Exit e))) = Unit {0}
TellsVerdict records c told (Ok (Verdict.Rejected (Rejection.Differs difference))) = IsVerdict (until c.job.end records) c.job (found_in told.held c.job.attempt) (Some difference)
TellsVerdict records c told (Err fault) = Unit {0}
