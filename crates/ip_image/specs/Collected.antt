-- The swap: when a collection is accepted, an image stands for the repository without the commits before the collection's own.
--     offsets_of records      where they lie.      from h records      those at h or above.      remaining h kept records      the kept ones, and those at h or above
--     HasTable h records      a table of branches lies at h or above
--     IsCollectable records r horizon c h e0 kept ended      what holds while a collection goes on, at the commit of number c whose record lies at h
--     IsSwapped s t c h n kept pair      the slot of the swap to the pair of attempt n
--     StandsCollected      the law
use Rattle.std.specs.Prelude.{◌≡◌, ℕ, ◌<◌, ◌≤◌, ◌++◌, List, length, map, filter, All, Some, Bool, nat_le}
use Rattle.ip_ground.specs.declared.names.FileName.TheVariants.{Mapping, Prefix}
use Rattle.ip_ground.specs.Contents.{Image}
use Rattle.ip_spec.specs.declared.record.Record.{Record}
use Rattle.ip_spec.specs.declared.record.Branch.{Branch}
use Rattle.ip_spec.specs.declared.record.CommitRecord.{CommitRecord}
use Rattle.ip_spec.specs.TreeAt.{Records, present}
use Rattle.ip_spec.specs.Core.{core_records, core_of, CorePhase, AreReached, IsClosed}
use Rattle.ip_spec.specs.Repository.{Repository}
use Rattle.ip_spec.specs.Step.{collected_at}
use Rattle.ip_image.specs.Slot.{Slot}
use Rattle.ip_image.specs.Standing.{StandsFor}
use Rattle.ip_image.specs.Collection.{Pair, IsValid, runs_of}
use Rattle.ip_image.specs.Pending.{HasLive, SameChunks}

abbrev pub offsets_of : Records → List ℕ
offsets_of records = map (λ (x : ℕ × Record). x.0) records

abbrev pub from : ℕ → Records → Records
from h records = filter (λ (x : ℕ × Record). nat_le h x.0) records

-- what a collection leaves
abbrev pub remaining : ℕ → Records → Records → Records
remaining h kept records = kept ++ from h records

-- of all branches as they were then, so what comes before it says nothing of them
pub record HasTable (h : ℕ) (records : Records) : Type 0 where
  pub at : ℕ
  pub rows : List Branch
  pub above : h ≤ at
  pub here : present records at ≡ Some (Record.BranchTable rows)

pub record IsCollectable (records : Records) (r : Repository) (horizon c h e0 : ℕ) (kept : List ℕ) (ended : Bool) : Type 0 where
  pub commit : CommitRecord
  pub here : present records h ≡ Some (Record.Commit commit)
  pub number : commit.number ≡ c
  pub below : h < e0
  -- no branch is at a commit that goes, and a table of them stays
  pub heads : All (λ e. c ≤ e.1) r.branches.entries
  pub table : HasTable h records
  -- what is kept is the least set of the records up to e0, and all that came since refers to it or to what lies above
  pub reached : AreReached (core_records records) h e0 kept
  pub core : IsClosed (core_of records horizon (CorePhase.collecting h kept ended))

-- The new horizon, floor and live pair, over the same space. The sequence, the next attempt and what is unswept may be any.
pub record IsSwapped (s t : Slot) (c h n : ℕ) (kept : Records) (pair : Pair) : Type 0 where
  pub version : t.version ≡ s.version
  pub chunk : t.chunk ≡ s.chunk
  pub horizon : t.horizon ≡ h
  pub end : t.end ≡ s.end
  pub floor : t.floor ≡ c
  pub next : t.next ≡ s.next
  pub live : t.live ≡ n
  pub prefix_len : t.prefix_len ≡ length pair.prefix
  pub rows : t.rows ≡ length (runs_of kept)

-- An image with the valid pair of a collection, the same chunks from its commit on, and the slot of the swap stands for the repository without the commits
-- before that one. Its records are those that remain.
abbrev pub StandsCollected : Type 0
StandsCollected = (image other : Image) (r : Repository) (s t : Slot) (c h e0 n : ℕ) (kept : List ℕ) (ended : Bool) (pair : Pair) (stands : StandsFor image r) → HasLive s image → HasLive t other
    → IsCollectable stands.standing.records r s.horizon c h e0 kept ended → e0 ≤ s.end
    → (valid : IsValid stands.standing.records h e0 pair) → IsSwapped s t c h n valid.kept pair
    → other (Mapping n) ≡ Some pair.mapping → other (Prefix n) ≡ Some pair.prefix → SameChunks s.chunk h s.end image other
    → (after : StandsFor other (collected_at r c)) × (after.standing.records ≡ remaining h valid.kept stands.standing.records)
