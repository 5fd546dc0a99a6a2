-- How many records a call has looked at that finds the valid pair.
--     bounds_looks      all looks of the check are no more than were made before, and those of the call
use Rattle.std.proofs.Common.{◌≡◌, ℕ, ◌+◌, subst}
use Rattle.std.specs.Prelude.{Result, Ok, Err}
use Rattle.ip_ground.specs.Contents.{Image}
use Rattle.ip_spawn.specs.declared.job.Job.{Job}
use Rattle.ip_spec.specs.TreeAt.{Records}
use Rattle.ip_image.specs.Collection.{Found}
use Rattle.ip_space.specs.SpaceView.{SpaceView}
use Rattle.ip_keep.specs.Whole.{AreRecords}
use Rattle.ip_check.specs.CheckView.{CheckView}
use Rattle.ip_check.specs.Checking.{Advances, IsCheck, IsChecking, LooksAtAll, SameCheck, looked_by}
use Rattle.ip_check.specs.declared.check.Outcome.{Outcome}
use Rattle.ip_check.specs.declared.fault.CheckFault.{CheckFault}
use Rattle.ip_check.proofs.Bounds.{looks_within}
use Rattle.ip_held.specs.declared.collection.Collection.{Collection}
use Rattle.ip_held.specs.Collecting.{until}
use Rattle.ip_collects.specs.declared.checking.Verdict.{Verdict}
use Rattle.ip_collects.specs.declared.finishing.FinishFault.{FinishFault}
use Rattle.ip_collects.specs.Finishing.{LooksWithin}
use Rattle.ip_collects.specs.Judging.{IsNextCheck, verdict_by}

module _ (most : ℕ) (image : Image) (records : Records) (c : Collection) (over : SpaceView) (k now : CheckView) (found : Found) (next : IsNextCheck c over k) (is : IsCheck now) (same : SameCheck k now)
    (whole : AreRecords image now.keep.space now.keep.horizon (until c.job.end records)) (checking : IsChecking (until c.job.end records) found now) where
  within : Advances most k now (Ok Outcome.Valid) → LooksWithin most records c
  within goes =
      subst (λ (n : ℕ). LooksAtAll (until c.job.end records) c.job (n + most)) next.looked
      (subst (λ (j : Job). LooksAtAll (until c.job.end records) j (looked_by k + most)) next.of.job (looks_within most image (until c.job.end records) found k now whole is same goes checking))

  pub bounds_looks : (result : Result Outcome CheckFault) (left : ℕ) → Advances most k now result → verdict_by result left ≡ Ok Verdict.Valid → LooksWithin most records c
  bounds_looks (Ok Outcome.Valid) left goes valid = within goes
  bounds_looks (Ok Outcome.More) left goes valid = absurd (cc (valid))
  bounds_looks (Ok (Outcome.Differs difference)) left goes valid = absurd (cc (valid))
  bounds_looks (Err fault) left goes valid = absurd (cc (valid))
