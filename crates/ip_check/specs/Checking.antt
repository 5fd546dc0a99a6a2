-- The check of a pair of files, in slices.
--     IsSpaceOf job space      its records are those of the job.      begun job space      the check of which nothing was done
--     IsCheck c      what holds of it over any files.      looked_by c      how many records were looked at
--     IsBlamed c at      the record that is looked at next, or the first that is compared next.      IsBrokenIn told c at      and what is wrong with it
--     Reaches c file want at      how far was compared where a difference is told.      HasReached c stage      and where any verdict is
--     compared_since old new      the kept records that were compared with the prefix since then
--     IsVerdict records job found told      the first place that differs from the valid pair, or that there is none
--     IsChecking records found c      what it has found of these records and of these files
--     Says records job found result      what an answer says.      Advances most old new result      how far a slice goes
--     SameCheck old new      it is the check of the same job, in the same space.      IsFixed told job      what is to stay as it is
--     FewLooks      law: how many looks there are at most.      LooksAll      law: and at least where the verdict is there.      LooksAtAll records job looks      so many looks are enough for a valid pair.      LooksTwice      law: so many were made where it was found.      Accepts      law: the valid pair is accepted
use Rattle.std.specs.Prelude.{◌≡◌, ◌≢◌, ℕ, ◌+◌, ◌*◌, ◌<◌, ◌≤◌, List, [], length, take, drop, slice_get, count_by, Option, Some, None, Result, Ok, Err}
use Rattle.ip_ground.specs.declared.names.FileName.TheVariants.{Mapping, Prefix}
use Rattle.ip_ground.specs.Contents.{Image}
use Rattle.ip_ground.specs.Told.{Told, IsForeign}
use Rattle.ip_spec.specs.declared.reply.Produced.{Produced}
use Rattle.ip_spec.specs.declared.reply.Seen.{Seen}
use Rattle.ip_spec.specs.declared.reply.Difference.{Difference}
use Rattle.ip_spec.specs.TreeAt.{Records}
use Rattle.ip_spawn.specs.declared.job.Job.{Job}
use Rattle.ip_spawn.specs.Jobs.{IsValid as IsValidJob}
use Rattle.ip_image.specs.Collection.{Pair, Found, IsValid, IsKept, difference, first_difference}
use Rattle.ip_image.specs.declared.run.Run.{Run}
use Rattle.ip_image.specs.Virtual.{total}
use Rattle.ip_space.specs.SpaceView.{SpaceView, bare, byte_at, grown, records_of}
use Rattle.ip_keep.specs.Keeping.{IsBlamedKeep, IsBroken, IsKeep, IsKeeping, IsThrough, looked_in, offsets, starts_between}
use Rattle.ip_keep.specs.Whole.{AreRecords}
use Rattle.ip_check.specs.declared.fault.CheckFault.{CheckFault}
use Rattle.ip_check.specs.declared.check.Stage.{Stage}
use Rattle.ip_check.specs.declared.check.Outcome.{Outcome}
use Rattle.ip_check.specs.Alike.{IsSoFar}
use Rattle.ip_check.specs.CheckView.{CheckView}
use Rattle.ip_check.specs.Stretching.{IsCutShort}

pub record IsSpaceOf (job : Job) (space : SpaceView) : Type 0 where
  pub chunk : job.chunk ≡ space.layout.chunk
  pub live : job.live ≡ space.layout.live
  pub old_horizon : job.old_horizon ≡ space.layout.horizon
  pub prefix_len : job.prefix_len ≡ space.layout.prefix_len
  pub rows : job.rows ≡ space.layout.rows
  pub end : job.end ≤ space.layout.end

abbrev pub begun : Job → SpaceView → CheckView
begun job space = record {
  job = job;
  keep = record { space = bare (grown space job.end); horizon = job.horizon; next = job.horizon; seen = 0; waiting = []; kept = [] };
  stage = Stage.Keeping;
  compared = 0;
}

-- the stage beside what was compared
abbrev pub IsAtStage : CheckView → Stage → Type 0
IsAtStage c Stage.Keeping = c.compared ≡ 0
IsAtStage c (Stage.Comparing place) = IsThrough c.keep × (place ≡ total (take c.compared c.keep.kept))
IsAtStage c (Stage.Through found) = IsThrough c.keep

-- a difference of the mapping is told before any byte of the prefix is compared, one at a byte of the prefix is at one that was compared, and one at its end comes once all were
abbrev pub Reaches : CheckView → Produced → Seen → ℕ → Type 0
Reaches c Produced.Mapping want at = c.compared ≡ 0
Reaches c Produced.Prefix (Seen.Byte byte) at = at < total (take c.compared c.keep.kept)
Reaches c Produced.Prefix Seen.End at = c.compared ≡ length c.keep.kept
Reaches c Produced.Prefix Seen.Absent at = ⊥

abbrev pub HasReached : CheckView → Stage → Type 0
HasReached c Stage.Keeping = Unit {0}
HasReached c (Stage.Comparing place) = Unit {0}
HasReached c (Stage.Through None) = c.compared ≡ length c.keep.kept
HasReached c (Stage.Through (Some d)) = Reaches c d.file d.want d.at

pub record IsCheck (c : CheckView) : Type 0 where
  pub job : IsValidJob c.job
  pub keep : IsKeep c.keep
  pub horizon : c.keep.horizon ≡ c.job.horizon
  pub end : c.keep.space.layout.end ≡ c.job.end
  pub compared : c.compared ≤ length c.keep.kept
  pub stage : IsAtStage c c.stage
  pub reached : HasReached c c.stage

abbrev pub looked_by : CheckView → ℕ
looked_by c = looked_in c.keep + c.compared

-- what damage is told of: the record that is looked at next, or while the prefix is compared, the first kept one that was not compared yet
abbrev pub IsBlamedAt : CheckView → ℕ → Stage → Type 0
IsBlamedAt c at Stage.Keeping = IsBlamedKeep c.keep at
IsBlamedAt c at (Stage.Comparing place) = slice_get (offsets c.keep.kept) c.compared ≡ Some at
IsBlamedAt c at (Stage.Through told) = ⊥

abbrev pub IsBlamed : CheckView → ℕ → Type 0
IsBlamed c at = IsBlamedAt c at c.stage

-- no record of a whole store stands there, or bytes of the kept ones that lie end to end from there on are missing
abbrev pub IsBrokenAt : Told → CheckView → ℕ → Stage → Type 0
IsBrokenAt told c at Stage.Keeping = IsBroken (records_of told c.keep.space) c.keep at
IsBrokenAt told c at (Stage.Comparing place) = IsCutShort (byte_at told c.keep.space) (drop c.compared c.keep.kept) at
IsBrokenAt told c at (Stage.Through found) = ⊥

abbrev pub IsBrokenIn : Told → CheckView → ℕ → Type 0
IsBrokenIn told c at = IsBrokenAt told c at c.stage

abbrev pub compared_since : CheckView → CheckView → List Run
compared_since old new = drop old.compared (take new.compared new.keep.kept)

-- the mapping is the valid one, and the prefix is up to a place
pub record IsComparing (records : Records) (job : Job) (found : Found) (place : ℕ) : Type 0 where
  pub pair : Pair
  pub valid : IsValid records job.horizon job.end pair
  pub mapping : difference Produced.Mapping pair.mapping found.mapping ≡ None
  pub prefix : IsSoFar pair.prefix found.prefix place

pub record IsVerdict (records : Records) (job : Job) (found : Found) (told : Option Difference) : Type 0 where
  pub pair : Pair
  pub valid : IsValid records job.horizon job.end pair
  pub difference : told ≡ first_difference pair found

abbrev pub HasCompared : Records → Job → Found → Stage → Type 0
HasCompared records job found Stage.Keeping = Unit {0}
HasCompared records job found (Stage.Comparing place) = IsComparing records job found place
HasCompared records job found (Stage.Through told) = IsVerdict records job found told

-- Of records that stay: nothing in it speaks of a file of the store, so commits between two slices leave it true.
pub record IsChecking (records : Records) (found : Found) (c : CheckView) : Type 0 where
  pub keep : IsKeeping records c.keep
  pub compared : HasCompared records c.job found c.stage

-- More says nothing of the pair; else the whole verdict is told
abbrev pub Says : Records → Job → Found → Result Outcome CheckFault → Type 0
Says records job found (Ok Outcome.More) = Unit {0}
Says records job found (Ok Outcome.Valid) = IsVerdict records job found None
Says records job found (Ok (Outcome.Differs difference)) = IsVerdict records job found (Some difference)
Says records job found (Err fault) = Unit {0}

abbrev pub EndsAs : CheckView → Result Outcome CheckFault → Type 0
EndsAs c (Ok Outcome.More) = (told : Option Difference) → c.stage ≢ Stage.Through told
EndsAs c (Ok Outcome.Valid) = c.stage ≡ Stage.Through None
EndsAs c (Ok (Outcome.Differs difference)) = c.stage ≡ Stage.Through (Some difference)
EndsAs c (Err fault) = Unit {0}

-- over any ground
pub record Advances (most : ℕ) (old new : CheckView) (result : Result Outcome CheckFault) : Type 0 where
  pub low : looked_by old ≤ looked_by new
  pub high : looked_by new ≤ looked_by old + most
  pub more : result ≡ Ok Outcome.More → looked_by new ≡ looked_by old + most
  pub ends : EndsAs new result

pub record SameCheck (old new : CheckView) : Type 0 where
  pub job : new.job ≡ old.job
  pub space : new.keep.space ≡ old.keep.space
  pub horizon : new.keep.horizon ≡ old.keep.horizon

-- the attempt's files are no child's any more, so that they stay while nobody writes them
pub record IsFixed (told : Told) (job : Job) : Type 0 where
  pub mapping : ¬ IsForeign told (Mapping job.attempt)
  pub prefix : ¬ IsForeign told (Prefix job.attempt)

-- each record from the horizon on is looked at once, and each that is kept twice
abbrev pub FewLooks : Type 0
FewLooks = (image : Image) (records : Records) (found : Found) (c : CheckView) → AreRecords image c.keep.space c.keep.horizon records → IsCheck c → IsChecking records found c →
    (kept : Records) → IsKept records c.job.horizon c.job.end kept → looked_by c ≤ count_by (starts_between c.job.horizon c.job.end) records + 2 * length kept

-- where the verdict is there each record from the horizon on was looked at
abbrev pub LooksAll : Type 0
LooksAll = (records : Records) (found : Found) (c : CheckView) (told : Option Difference) → IsCheck c → IsChecking records found c → c.stage ≡ Stage.Through told →
    count_by (starts_between c.job.horizon c.job.end) records ≤ looked_by c

-- the looks at all records from the horizon on, and two at each that is kept
abbrev pub LooksAtAll : Records → Job → ℕ → Type 0
LooksAtAll records job looks = (kept : Records) → IsKept records job.horizon job.end kept → count_by (starts_between job.horizon job.end) records + 2 * length kept ≤ looks

-- where the pair was found to be valid each of these was made
abbrev pub LooksTwice : Type 0
LooksTwice = (image : Image) (records : Records) (found : Found) (c : CheckView) → AreRecords image c.keep.space c.keep.horizon records → IsCheck c → IsChecking records found c → c.stage ≡ Stage.Through None →
    LooksAtAll records c.job (looked_by c)

-- where the valid pair was found, nothing differs
abbrev pub Accepts : Type 0
Accepts = (records : Records) (job : Job) (pair : Pair) (told : Option Difference) → IsValid records job.horizon job.end pair →
    IsVerdict records job (record { mapping = Some pair.mapping; prefix = Some pair.prefix }) told → told ≡ None
