-- What each step of collecting does to what is told.
--     IsPairFile attempt file      the prefix or the mapping of the attempt.      IsFree told attempt      it was never lent
--     IsReady attempt space told      nobody else changes the attempt's files nor the live pair, and they are not the same
--     NoneDone attempt told      a crash leaves no done file
--     Clears, SyncsPair, Ends      what was there goes, the pair is synced, the done file is written and synced
--     IsFor job k      the search is the job's.      IsFound records image k      all that is kept was found.      Opens, Finds      its space, and the search
--     gathered bytes_at runs      the bytes of the runs, one run behind another
--     IsCopied, Copies, CopiesRuns      bytes are copied to the end of the prefix, and runs are
--     IsCounted kept counts      the counts are those of what was kept.      IsWritten, WritesPair      the pair is written, and synced
use Rattle.std.specs.Prelude.{◌≡◌, ◌≢◌, ℕ, List, ◌++◌, flat_map, length, codes, Option, Some, None, Result, IfOk, OnOk, IsErrOf}
use Rattle.ip_ground.specs.declared.names.FileName.{FileName}
use Rattle.ip_ground.specs.declared.names.FileName.TheVariants.{Control, Chunk, Mapping, Prefix, Done}
use Rattle.ip_ground.specs.declared.names.GroundFault.{GroundFault}
use Rattle.ip_ground.specs.Contents.{Image}
use Rattle.ip_ground.specs.Custody as custody
use Rattle.ip_ground.specs.Custody.{IsOfAttempt}
use Rattle.ip_ground.specs.Told.{Told, ChangesOnly, IsSynced, lending, Only, EachNow, EachSince}
use Rattle.ip_spec.specs.Path.{Bytes}
use Rattle.ip_spec.specs.TreeAt.{Records}
use Rattle.ip_spawn.specs.declared.job.Job.{Job}
use Rattle.ip_image.specs.declared.run.Row.{Row}
use Rattle.ip_image.specs.declared.run.Run.{Run}
use Rattle.ip_image.specs.Virtual.{mapping_bytes, total}
use Rattle.ip_image.specs.Stored.{bytes_from}
use Rattle.ip_space.specs.SpaceView.{SpaceView, IsReadable}
use Rattle.ip_keep.specs.KeepView.{KeepView}
use Rattle.ip_keep.specs.Keeping.{IsKeep, IsThrough, IsKeeping}
use Rattle.ip_keep.specs.Runs.{IsHeld, AreHeld, joined}
use Rattle.ip_keep.specs.Whole.{AreRecords}
use Rattle.ip_worker.specs.declared.fault.WorkFault.{WorkFault}
use Rattle.ip_worker.specs.declared.worker.Counts.{Counts}
use Rattle.ip_worker.specs.Whole.{layout_of_job, space_of_job}

abbrev pub IsPairFile : ℕ → FileName → Type 0
IsPairFile n Control = ⊥
IsPairFile n (Chunk number) = ⊥
IsPairFile n (Prefix attempt) = attempt ≡ n
IsPairFile n (Mapping attempt) = attempt ≡ n
IsPairFile n (Done attempt) = ⊥

abbrev pub IsFree : Told → ℕ → Type 0
IsFree told attempt = lending told attempt ≡ custody.own

pub record IsReady (attempt : ℕ) (space : SpaceView) (told : Told) : Type 0 where
  pub free : IsFree told attempt
  pub readable : IsReadable told space
  pub apart : space.layout.live ≢ attempt

-- a crash leaves no done file
abbrev pub NoneDone : ℕ → Told → Type 0
NoneDone attempt told = EachNow told (Done attempt) (λ content. content ≡ None)

pub record Clears (attempt : ℕ) (result : Result (Unit {0}) GroundFault) (old new : Told) : Type 0 where
  pub only : ChangesOnly (IsOfAttempt attempt) old new
  pub gone : OnOk result ((file : FileName) → IsOfAttempt attempt file → new.held file ≡ None)
  pub none : NoneDone attempt old → EachSince old new (Done attempt) (λ content. content ≡ None)

pub record SyncsPair (attempt : ℕ) (result : Result (Unit {0}) GroundFault) (old new : Told) : Type 0 where
  pub only : ChangesOnly (IsPairFile attempt) old new
  pub held : (file : FileName) → IsPairFile attempt file → new.held file ≡ old.held file
  pub synced : OnOk result ((file : FileName) → IsPairFile attempt file → IsSynced new file)

pub record Ends (attempt : ℕ) (result : Result (Unit {0}) GroundFault) (old new : Told) : Type 0 where
  pub only : ChangesOnly (Only (Done attempt)) old new
  pub held : OnOk result (new.held (Done attempt) ≡ Some (codes "IPDONE01"))
  pub synced : OnOk result (IsSynced new (Done attempt))

-- what holds of the search over any files
pub record IsFor (job : Job) (k : KeepView) : Type 0 where
  pub keep : IsKeep k
  pub layout : k.space.layout ≡ layout_of_job job
  pub horizon : k.horizon ≡ job.horizon

pub record IsFound (records : Records) (image : Image) (k : KeepView) : Type 0 where
  pub through : IsThrough k
  pub keeping : IsKeeping records k
  pub lie : AreRecords image k.space k.horizon records

pub record Opens (job : Job) (rows : List Row) (result : Result SpaceView WorkFault) : Type 0 where
  pub ok : IfOk result (λ space. space ≡ space_of_job job rows)
  pub whole : IsErrOf result WorkFault.Damaged → ⊥

pub record Finds (records : Records) (image : Image) (result : Result KeepView WorkFault) : Type 0 where
  pub ok : IfOk result (λ k. IsFound records image k)
  pub whole : IsErrOf result WorkFault.Damaged → ⊥

abbrev pub gathered : (ℕ → Option ℕ) → List Run → Bytes
gathered bytes_at runs = flat_map (λ (run : Run). bytes_from bytes_at run.at run.length) runs

-- behind what the prefix held
pub record IsCopied (bytes_at : ℕ → Option ℕ) (attempt at n : ℕ) (before : Bytes) (new : Told) : Type 0 where
  pub held : new.held (Prefix attempt) ≡ Some (before ++ bytes_from bytes_at at n)
  pub size : length (bytes_from bytes_at at n) ≡ n

pub record Copies (bytes_at : ℕ → Option ℕ) (attempt at n : ℕ) (before : Bytes) (result : Result (Unit {0}) WorkFault) (new : Told) : Type 0 where
  pub ok : OnOk result (IsCopied bytes_at attempt at n before new)
  pub whole : IsErrOf result WorkFault.Damaged → IsHeld bytes_at at n → ⊥

pub record CopiesRuns (bytes_at : ℕ → Option ℕ) (attempt : ℕ) (runs : List Run) (result : Result ℕ WorkFault) (new : Told) : Type 0 where
  pub ok : IfOk result (λ n. new.held (Prefix attempt) ≡ Some (gathered bytes_at runs))
  pub whole : IsErrOf result WorkFault.Damaged → AreHeld bytes_at runs → ⊥

pub record IsCounted (kept : List Run) (counts : Counts) : Type 0 where
  pub records : counts.records ≡ length kept
  pub bytes : counts.bytes ≡ total (joined kept)
  pub runs : counts.runs ≡ length (joined kept)

pub record IsWritten (bytes_at : ℕ → Option ℕ) (job : Job) (runs : List Run) (new : Told) : Type 0 where
  pub prefix : new.held (Prefix job.attempt) ≡ Some (gathered bytes_at runs)
  pub mapping : new.held (Mapping job.attempt) ≡ Some (mapping_bytes job.horizon job.end runs)
  pub synced : (file : FileName) → IsPairFile job.attempt file → IsSynced new file

pub record WritesPair {A : Type 0} (bytes_at : ℕ → Option ℕ) (job : Job) (runs : List Run) (result : Result A WorkFault) (new : Told) : Type 0 where
  pub ok : IfOk result (λ x. IsWritten bytes_at job runs new)
  pub whole : IsErrOf result WorkFault.Damaged → AreHeld bytes_at runs → ⊥
