-- The search for what is kept, by records alone.
--     IsKeep k      what holds of it over any files.      IsThrough k      nothing is left to be looked at.      lowest k      above it nothing is looked at any more
--     looked_in k      how many records were looked at
--     IsKeeping records k      what it has found of these records
--     IsGreatest waiting at      it is one of them, and none is greater.      IsBlamedKeep k at      the record that is looked at next
--     IsBroken records k at      none stands there, or none that a whole store has
--     RefersDown records at      a record stands there, and what it refers to lies below it.      RunsDown records from to      so it is of all between these, end to end
--     LeadsDown records k      and of each that was looked at, over any files
--     SameWork old new      it goes on in the same space, at the same horizon.      LooksUpTo most old new result      how many records were looked at
--     KeepsAll      law: then what was kept is the least set.      FewLooks      law: how many looks there are at most
use Rattle.std.specs.Prelude.{◌≡◌, ◌⊎◌, ℕ, ◌+◌, ◌<◌, ◌≤◌, ◌&&◌, List, [], length, map, count_by, Bool, true, Contains, Option, Some, IsSomeAnd, Result, Ok, Err, nat_le, nat_lt}
use Rattle.std.specs.List.{AllByRecursion}
use Rattle.std.specs.List.Sorted.{IsStrictlyIncreasing}
use Rattle.ip_base.specs.declared.limit.TheConstants.{OFFSET_MAX}
use Rattle.ip_ground.specs.Contents.{Image}
use Rattle.ip_spec.specs.declared.record.Record.{Record}
use Rattle.ip_spec.specs.declared.event.CoreRecord.{CoreRecord}
use Rattle.ip_spec.specs.Record.{spelling}
use Rattle.ip_spec.specs.TreeAt.{Records, present}
use Rattle.ip_spec.specs.Core.{core_records, Reached}
use Rattle.ip_image.specs.declared.run.Run.{Run}
use Rattle.ip_image.specs.Collection.{IsKept, runs_of}
use Rattle.ip_space.specs.Scanning.{RunsTo}
use Rattle.ip_keep.specs.declared.fault.KeepFault.{KeepFault}
use Rattle.ip_keep.specs.Entering.{are_below, refs_of}
use Rattle.ip_keep.specs.KeepView.{KeepView}
use Rattle.ip_keep.specs.Runs.{joined, least, AreApart}
use Rattle.ip_keep.specs.Whole.{run_at, AreRecords}

abbrev pub lowest : KeepView → ℕ
lowest k = least k.horizon k.kept

pub record IsKeep (k : KeepView) : Type 0 where
  pub ends : k.space.layout.end ≤ OFFSET_MAX
  pub low : k.horizon ≤ k.next
  pub high : k.next ≤ k.space.layout.end
  pub seen : k.horizon + k.seen ≤ k.next
  pub waits : IsStrictlyIncreasing k.waiting
  -- the greatest that waits is looked at first
  pub below : AllByRecursion (λ at. at < lowest k) k.waiting
  pub apart : AreApart k.horizon k.kept
  -- what lies from the horizon on is looked at first
  pub first : k.next < k.space.layout.end → k.kept ≡ []

abbrev pub IsThrough : KeepView → Type 0
IsThrough k = (k.next ≡ k.space.layout.end) × (k.waiting ≡ [])

abbrev pub looked_in : KeepView → ℕ
looked_in k = k.seen + length k.kept

abbrev pub offsets : List Run → List ℕ
offsets kept = map (λ run. run.at) kept

-- it waits, or was kept
abbrev pub IsFound : KeepView → ℕ → Type 0
IsFound k at = Contains k.waiting at ⊎ Contains (offsets k.kept) at

abbrev pub starts_between : ℕ → ℕ → ℕ × Record → Bool
starts_between low high x = nat_le low x.0 && nat_lt x.0 high

-- Want of memory in the middle of a record's references leaves it true: what was entered of them is found, and the record was not looked at.
pub record IsKeeping (records : Records) (k : KeepView) : Type 0 where
  pub border : RunsTo (present records) k.next k.space.layout.end
  pub seen : k.seen ≡ count_by (starts_between k.horizon k.next) records
  -- all that was found is in the least set
  pub sound : (at : ℕ) → IsFound k at → Reached (core_records records) k.horizon k.space.layout.end at
  -- what was looked at has its references found
  pub above : (r : CoreRecord) (at : ℕ) → Contains (core_records records) r → k.horizon ≤ r.at → r.at < k.next → Contains r.refs at → at < k.horizon → IsFound k at
  pub closed : (r : CoreRecord) (at : ℕ) → Contains (core_records records) r → Contains (offsets k.kept) r.at → Contains r.refs at → IsFound k at
  pub lengths : (run : Run) → Contains k.kept run → (r : Record) × (present records run.at ≡ Some r) × (run.length ≡ length (spelling r))

abbrev pub IsGreatest : List ℕ → ℕ → Type 0
IsGreatest waiting at = Contains waiting at × ((other : ℕ) → Contains waiting other → other ≤ at)

-- what damage is told of: the next record from the horizon on, or once none is left there, the greatest that waits
abbrev pub IsBlamedKeep : KeepView → ℕ → Type 0
IsBlamedKeep k at = ((k.next < k.space.layout.end) × (at ≡ k.next)) ⊎ ((k.next ≡ k.space.layout.end) × IsGreatest k.waiting at)

-- no record stands there, or it refers to what does not lie below it, or it is one below the horizon that goes over the next that is kept
abbrev pub IsBroken : (ℕ → Option Record) → KeepView → ℕ → Type 0
IsBroken records k at = (rec : Record) → records at ≡ Some rec → are_below at (refs_of rec) ≡ true → (at < k.horizon) × (lowest k < at + length (spelling rec))

abbrev pub RefersDown : (ℕ → Option Record) → ℕ → Type 0
RefersDown records at = IsSomeAnd (records at) (λ rec. are_below at (refs_of rec) ≡ true)

pub data RunsDown (records : ℕ → Option Record) (from : ℕ) : ℕ → Type 0 where
  from_there : RunsDown records from from
  behind : {to : ℕ} (found : Record) → RunsDown records from to → records to ≡ Some found → are_below to (refs_of found) ≡ true → RunsDown records from (to + length (spelling found))

-- no reference that lies ahead was passed over
pub record LeadsDown (records : ℕ → Option Record) (k : KeepView) : Type 0 where
  pub above : RunsDown records k.horizon k.next
  pub kept : AllByRecursion (λ run. RefersDown records run.at) k.kept

pub record SameWork (old new : KeepView) : Type 0 where
  pub space : new.space ≡ old.space
  pub horizon : new.horizon ≡ old.horizon

-- As many as asked for, but fewer where it is through: then so many are left. A record that was not read, or not entered whole, was not looked at.
abbrev pub LooksUpTo : ℕ → KeepView → KeepView → Result ℕ KeepFault → Type 0
LooksUpTo most old new (Ok left) = (looked_in new + left ≡ looked_in old + most) × (left ≤ most) × (0 < left → IsThrough new)
LooksUpTo most old new (Err fault) = (looked_in old ≤ looked_in new) × (looked_in new ≤ looked_in old + most)

abbrev pub KeepsAll : Type 0
KeepsAll = (image : Image) (records : Records) (k : KeepView) → AreRecords image k.space k.horizon records → IsKeep k → IsKeeping records k → IsThrough k →
    (kept : Records) × IsKept records k.horizon k.space.layout.end kept × (k.kept ≡ map run_at kept) × (joined k.kept ≡ runs_of kept)

-- each record from the horizon on is looked at once, and each that is kept
abbrev pub FewLooks : Type 0
FewLooks = (image : Image) (records : Records) (k : KeepView) → AreRecords image k.space k.horizon records → IsKeep k → IsKeeping records k →
    (kept : Records) → IsKept records k.horizon k.space.layout.end kept → looked_in k ≤ count_by (starts_between k.horizon k.space.layout.end) records + length kept
