-- What collecting does.
--     NothingLent told      no attempt was ever lent
--     IsServed image attempt      the control file names the attempt as the live one
--     WritesAttempt job old new      no file changes but the attempt's
--     IsLeft records job counts new      the valid pair stands in the attempt's files, synced, and is counted
--     DoneLast records job old new      at no moment may a crash leave the done file without the pair
--     Works records job result old new      over files that are whole
--     Refuses result old new      it is not done, and no file changes
use Rattle.std.specs.Prelude.{◌≡◌, ◌≢◌, ℕ, ◌<◌, ◌≤◌, length, codes, Some, None, Result, IfOk, IsOk, IsErrOf}
use Rattle.ip_ground.specs.declared.names.FileName.TheVariants.{Mapping, Prefix, Done}
use Rattle.ip_ground.specs.Contents.{Content, Image}
use Rattle.ip_ground.specs.Custody.{own, IsOfAttempt}
use Rattle.ip_ground.specs.Told.{Told, NoFile, ChangesOnly, IsSynced, lending}
use Rattle.ip_spec.specs.TreeAt.{Records}
use Rattle.ip_spawn.specs.declared.job.Job.{Job}
use Rattle.ip_image.specs.declared.slot.Slot.{Slot}
use Rattle.ip_image.specs.Pending.{HasLive}
use Rattle.ip_image.specs.Collection.{Pair, IsValid, runs_of}
use Rattle.ip_worker.specs.declared.fault.WorkFault.{WorkFault}
use Rattle.ip_worker.specs.declared.worker.Counts.{Counts}

abbrev pub NothingLent : Told → Type 0
NothingLent told = (attempt : ℕ) → lending told attempt ≡ own

-- no store asks for such an attempt: it draws each above the live one
pub record IsServed (image : Image) (attempt : ℕ) : Type 0 where
  pub slot : Slot
  pub live : HasLive slot image
  pub named : slot.live ≡ attempt

abbrev pub WritesAttempt : Job → Told → Told → Type 0
WritesAttempt job old new = ChangesOnly (IsOfAttempt job.attempt) old new

pub record IsLeft (records : Records) (job : Job) (counts : Counts) (new : Told) : Type 0 where
  pub pair : Pair
  pub valid : IsValid records job.horizon job.end pair
  pub mapping : new.held (Mapping job.attempt) ≡ Some pair.mapping
  pub prefix : new.held (Prefix job.attempt) ≡ Some pair.prefix
  pub done : new.held (Done job.attempt) ≡ Some (codes "IPDONE01")
  pub synced_mapping : IsSynced new (Mapping job.attempt)
  pub synced_prefix : IsSynced new (Prefix job.attempt)
  pub synced_done : IsSynced new (Done job.attempt)
  pub records_kept : counts.records ≡ length valid.kept
  pub bytes : counts.bytes ≡ length pair.prefix
  pub runs : counts.runs ≡ length (runs_of valid.kept)

-- At a moment since old at which a crash may leave the done file, where it left none before, it leaves the valid pair too.
abbrev pub DoneLast : Records → Job → Told → Told → Type 0
DoneLast records job old new = ((content : Content) → old.may_leave old.moment (Done job.attempt) content → content ≡ None) → (pair : Pair) → IsValid records job.horizon job.end pair
    → (t : ℕ) (done mapping prefix : Content) → old.moment < t → t ≤ new.moment → new.may_leave t (Done job.attempt) done → done ≢ None
    → new.may_leave t (Mapping job.attempt) mapping → new.may_leave t (Prefix job.attempt) prefix → (mapping ≡ Some pair.mapping) × (prefix ≡ Some pair.prefix)

pub record Works (records : Records) (job : Job) (result : Result Counts WorkFault) (old new : Told) : Type 0 where
  pub ok : IfOk result (λ counts. IsLeft records job counts new)
  pub whole : IsErrOf result WorkFault.Damaged → ⊥
  pub last : DoneLast records job old new

pub record Refuses (result : Result Counts WorkFault) (old new : Told) : Type 0 where
  pub undone : IsOk result → ⊥
  pub only : ChangesOnly NoFile old new
