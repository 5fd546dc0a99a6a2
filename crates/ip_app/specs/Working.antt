-- What a call does that collects, as the child of a collection.
--     worked_status worked      the status of what the collector answered.      WorksAs      it is that, over what was told
--     CountsWorking status old new      what is counted then
--     RunsJob job old new status      from what is told when it begins to what is told when it returns
--     NamesWorker words      the word behind the program's name is that of such a call
use Rattle.std.specs.Prelude.{◌≡◌, ◌⊎◌, Bool, IsTrue, List, Some, Result, Ok, Err, IsErrOf, codes, slice_get}
use Rattle.ip_ground.specs.Counts.{Noted, Rose, FileFault, RemoveFault, DamageFound}
use Rattle.ip_ground.specs.Told.{Told, NoFile, ChangesOnly}
use Rattle.ip_spec.specs.Path.{Bytes}
use Rattle.ip_spec.specs.TreeAt.{Records}
use Rattle.ip_spawn.specs.declared.job.Job.{Job}
use Rattle.ip_worker.specs.declared.fault.WorkFault.{WorkFault}
use Rattle.ip_worker.specs.declared.worker.Counts.{Counts}
use Rattle.ip_worker.specs.Steps.{IsFree}
use Rattle.ip_worker.specs.Whole.{AreWhole}
use Rattle.ip_worker.specs.Working.{NothingLent, IsServed, WritesAttempt, Works, Refuses}
use Rattle.ip_app.specs.declared.statuses.Status.{Status}
use Rattle.ip_app.specs.Outside.{Outside, GoesOn, IsBound, IsUnasked, but_bound}

abbrev pub worked_status : Result Counts WorkFault → Status
worked_status (Ok counts) = Status.Done
worked_status (Err WorkFault.Ground) = Status.GroundFault
worked_status (Err WorkFault.Damaged) = Status.DamagedJob
worked_status (Err WorkFault.Memory) = Status.Memory

-- Where the job's files are whole, nothing is lent and the control file does not name the attempt as live: the valid pair is left where it is done,
-- and they are not told damaged.
pub record WorksAs (tells : Bool) (job : Job) (old new : Told) (status : Status) : Type 0 where
  pub worked : Result Counts WorkFault
  pub status_is : status ≡ worked_status worked
  pub works : IsTrue tells → (records : Records) → AreWhole old.held job records → NothingLent old → ¬ IsServed old.held job.attempt → Works records job worked old new
  -- where it is named, it is not done, and no file changes
  pub served : IsTrue tells → IsServed old.held job.attempt → Refuses worked old new
  -- where nothing is lent and the job is found damaged, no file has changed
  pub spared : IsTrue tells → NothingLent old → IsErrOf worked WorkFault.Damaged → ChangesOnly NoFile old new

-- which folder is bound is another thing
abbrev pub CountsWorking : Status → Noted → Noted → Type 0
CountsWorking Status.GroundFault old new = FileFault (but_bound old new) new ⊎ RemoveFault (but_bound old new) new
CountsWorking Status.DamagedJob old new = DamageFound (but_bound old new) new
CountsWorking _ old new = new ≡ but_bound old new

pub record RunsJob (job : Job) (old new : Outside) (status : Status) : Type 0 where
  pub goes_on : GoesOn old new
  pub left : new.left ≡ old.left
  pub read_faults : new.read_faults ≡ old.read_faults
  pub turns : new.turns ≡ old.turns
  pub unasked : IsUnasked old new
  -- at no moment does a file change that is not of the job's attempt, and nothing is said
  pub only : IsTrue old.ground_tells → IsFree old.told job.attempt → WritesAttempt job old.told new.told
  pub works : WorksAs old.ground_tells job old.told new.told status
  -- a fault of a file or of a removal was counted, or damage, where the status says so, and nothing of another kind
  pub counted : CountsWorking status old.counts new.counts
  pub bound : IsBound old.dir status old.counts new.counts
  -- where no fault is counted, the job's files are whole and its attempt is not the live one, it is done, or memory was wanting
  pub complete : IsTrue old.ground_tells → (records : Records) → AreWhole old.told.held job records → NothingLent old.told → ¬ IsServed old.told.held job.attempt
      → ¬ Rose old.counts.file_faults new.counts.file_faults → ¬ Rose old.counts.remove_faults new.counts.remove_faults → (status ≡ Status.Done) ⊎ (status ≡ Status.Memory)

abbrev pub NamesWorker : List Bytes → Type 0
NamesWorker words = slice_get words 1 ≡ Some (codes "worker")
