-- How the image of a store goes on, in its generation: over the same bytes, and with those of more records behind them.
--     SameGeneration s t      a slot over the same records below its end, or more of them
--     AddsBytes s bytes image other      the other image has the same bytes of the slot's records, and these behind them
--     MayGrow r tree parents info branch      what a commit is made of, that no refusal stands against
--     unread tree      a tree of which no part is known to be stored
--     MayName r x, renamed r x      a record that changes the branches, or a table of them as they are, and the repository after it
--     StandsStill, StandsGrown, StandsRenamed      the laws.      RecordsGoOn      the records of an image that goes on
use Rattle.std.specs.Prelude.{◌≡◌, ◌≢◌, ℕ, ◌+◌, ◌≤◌, List, ◌++◌, length, map, All, AllPairs, None, IsTrue}
use Rattle.ip_base.specs.declared.limit.TheConstants.{PARENTS_MAX, BRANCHES_MAX}
use Rattle.ip_base.specs.declared.info.Info.{Info}
use Rattle.ip_ground.specs.Contents.{Image}
use Rattle.ip_spec.specs.Map.{insert, len}
use Rattle.ip_spec.specs.Path.{Bytes}
use Rattle.ip_spec.specs.declared.record.Record.{Record}
use Rattle.ip_spec.specs.Record.{Names, Fits, IsInfo, IsBranchName, spelling, spelling_of}
use Rattle.ip_spec.specs.Tree.{Tree, IsTree, widest}
use Rattle.ip_spec.specs.TreeAt.{Records, present}
use Rattle.ip_spec.specs.View.{View}
use Rattle.ip_spec.specs.Batch.{CommitFields, Sources, batch, batch_end, AreEndToEnd, KnownStand, SourcesStand}
use Rattle.ip_spec.specs.Repository.{Repository, next, is_retained, number_named, name_at}
use Rattle.ip_spec.specs.Step.{new_commit, with_commit, entries_limit}
use Rattle.ip_image.specs.Slot.{Slot}
use Rattle.ip_image.specs.Virtual.{Stands, chunk_byte}
use Rattle.ip_image.specs.Standing.{Standing, StandsFor, IsServedKind, names_after, row_of}
use Rattle.ip_image.specs.Pending.{HasLive, SameSpace}

-- The same generation of the same store. Another end, another number of commits, another sequence, and what is unswept or drawn next may be others.
pub record SameGeneration (s t : Slot) : Type 0 where
  pub version : t.version ≡ s.version
  pub chunk : t.chunk ≡ s.chunk
  pub horizon : t.horizon ≡ s.horizon
  pub floor : t.floor ≡ s.floor
  pub live : t.live ≡ s.live
  pub prefix_len : t.prefix_len ≡ s.prefix_len
  pub rows : t.rows ≡ s.rows

pub record AddsBytes (s : Slot) (bytes : Bytes) (image other : Image) : Type 0 where
  pub same : SameSpace s image other
  pub added : Stands (chunk_byte s.chunk other) s.end bytes

-- a tree of which no part is known to be stored
abbrev pub unread : Tree → View
unread tree = record { map = tree; oldest = None; known = λ part. None }

-- a tree with no directory wider than a command may make one, and what a commit of it may have
pub record MayGrow (r : Repository) (tree : Tree) (parents : List ℕ) (info : Info) (branch : Bytes) : Type 0 where
  pub is_tree : IsTree tree
  pub narrow : widest tree ≤ entries_limit
  pub retained : All (λ n. IsTrue (is_retained r n)) parents
  pub distinct : AllPairs (λ m n. m ≢ n) parents
  pub few : length parents ≤ PARENTS_MAX
  pub is_info : IsInfo info
  pub is_branch : IsBranchName branch
  pub new_name : number_named r (new_commit r tree parents info).name ≡ None
  pub room : len (insert r.branches branch (next r)) ≤ BRANCHES_MAX

abbrev pub fields_of : Repository → List ℕ → Info → Bytes → CommitFields
fields_of r parents info branch = record { number = next r; parents = map (λ n. record { number = n; name = name_at r n }) parents; info = info; branch = branch }

abbrev pub bytes_of_records : Records → Bytes
bytes_of_records records = spelling_of (map (λ x. x.1) records)

-- each within the bounds of a version of the format, and of a kind that is there so far
abbrev pub AreWithin : ℕ → Records → Type 0
AreWithin version records = All (λ (x : ℕ × Record). Fits version x.1 × IsServedKind x.1) records

-- a record that sets a branch, takes one away, or says all of them as they are, and may stand behind those of a repository
abbrev pub MayName : Repository → Record → Type 0
MayName r (Record.BranchSet number name) = IsTrue (is_retained r number) × (len (insert r.branches name number) ≤ BRANCHES_MAX)
MayName r (Record.BranchRemove name) = Unit {0}
MayName r (Record.BranchTable rows) = map row_of rows ≡ r.branches.entries
MayName r _ = ⊥

abbrev pub renamed : Repository → Record → Repository
renamed r x = record r { branches = names_after Names.branches r.branches x }

-- an image with the same records stands for the same repository, whatever else differs
abbrev pub StandsStill : Type 0
StandsStill = (image other : Image) (r : Repository) (s t : Slot) → StandsFor image r → HasLive s image → HasLive t other → SameGeneration s t → t.end ≡ s.end → t.next ≡ s.next
    → SameSpace s image other → StandsFor other r

-- One with the records of a commit behind them, for the repository after the commit: of a tree of any depth, of which the known parts are spelled by
-- its records and the others by the batch, wherever that takes its contents from. Its records are then the old ones and the batch.
abbrev pub StandsGrown : Type 0
StandsGrown = (image other : Image) (r : Repository) (s t : Slot) (v : View) (from : Sources) (parents : List ℕ) (info : Info) (branch : Bytes) (stands : StandsFor image r) → HasLive s image
    → MayGrow r v.map parents info branch
    → KnownStand (present stands.standing.records) v s.end → SourcesStand (present stands.standing.records) v from
    → AreWithin s.version (batch v from (fields_of r parents info branch) s.end)
    → HasLive t other → SameGeneration s t → t.end ≡ batch_end v from (fields_of r parents info branch) s.end → t.next ≡ s.next + 1
    → AddsBytes s (bytes_of_records (batch v from (fields_of r parents info branch) s.end)) image other
    → (after : StandsFor other (with_commit r (new_commit r v.map parents info) branch)) × (after.standing.records ≡ stands.standing.records ++ batch v from (fields_of r parents info branch) s.end)

-- and one with a record of branches behind them, of a kind that is there so far, for the repository with its branches changed
abbrev pub StandsRenamed : Type 0
StandsRenamed = (image other : Image) (r : Repository) (s t : Slot) (x : Record) → StandsFor image r → HasLive s image → MayName r x → Fits s.version x → IsServedKind x
    → HasLive t other → SameGeneration s t → t.end ≡ s.end + length (spelling x) → t.next ≡ s.next → AddsBytes s (spelling x) image other → StandsFor other (renamed r x)

-- The records of an image that has the bytes of another image's records and behind them those of more, up to the end of its live slot, are the other's and
-- these, in whatever way it stands. With none more they are the same.
abbrev pub RecordsGoOn : Type 0
RecordsGoOn = (image other : Image) (s t : Slot) (new : Records) (before : Standing image) (after : Standing other) → HasLive s image → HasLive t other → SameGeneration s t
    → AreEndToEnd s.end new t.end → All (λ (x : ℕ × Record). Fits t.version x.1) new → AddsBytes s (bytes_of_records new) image other
    → after.records ≡ before.records ++ new
