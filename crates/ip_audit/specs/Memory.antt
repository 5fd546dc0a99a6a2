-- What the audit remembers of each record, and the tests that it makes by this alone.
--     Kept, Part      of contents the name; of a part of a directory its depth, count, height, name and common places
--     Look      what is remembered at each offset
--     kept_of look r      what is remembered of a record
--     Remembers look records      what is remembered is that of these records
--     Memory      all that is remembered: of parts and contents by offset, and the names of the commits in order
--     Passes terms memory at r      the test of a record, over what is remembered
--     IsMore memory at r after      what is remembered after it
--     IsBeyond at rs      the offset is above those of the records
--     IsTrueMemory memory rs      what is remembered is that of the records, and each part among them is a part of some directory
use Rattle.std.specs.Prelude.{◌-◌, ◌+◌, ◌≢◌, All, AllPairs, IfSome, slice_get, ◌≡◌, ◌⊎◌, ℕ, suc, max, ◌<◌, ◌≤◌, ◌||◌, ◌==◌, cond, List, [], ◌∷◌, ◌++◌, length, map, fold, take, sum_by, Option, Some, None, IsTrue, nat_le}
use Rattle.std.specs.List.{AllByRecursion, range_with_len}
use Rattle.sha2.specs.Sha256.{sha256}
use Rattle.ip_spec.specs.Path.{Step}
use Rattle.ip_spec.specs.declared.record.Record.{Record}
use Rattle.ip_spec.specs.declared.kind.TheConstants as kinds
use Rattle.ip_spec.specs.declared.record.CommitRecord.{CommitRecord}
use Rattle.ip_spec.specs.declared.record.LeafEntry.{LeafEntry}
use Rattle.ip_spec.specs.declared.record.InodeChild.{InodeChild}
use Rattle.ip_spec.specs.Record.{Hash, hashed_commit}
use Rattle.ip_spec.specs.Shape.{place, leaf_limit, deepest}
use Rattle.ip_spec.specs.TreeAt.{Records, present}
use Rattle.ip_image.specs.declared.terms.Terms.{Terms}
use Rattle.ip_shape.specs.PartNames.{inode_name, leaf_name}
use Rattle.ip_spec.specs.Step.{entries_limit}
use Rattle.ip_image.specs.Standing.{IsSomePart, IsEarlier, outside, commits_in}

-- depth: of an inode. common: the first places, in which all steps agree. Of an inode those above its depth, of a leaf all there are, 51 at most
pub record Part : Type 0 where
  pub depth : Option ℕ
  pub count : ℕ
  pub height : ℕ
  pub name : Hash
  pub common : List ℕ

pub data Kept : Type 0 where
  kept_contents : Hash → Kept
  kept_part : Part → Kept

abbrev pub Look : Type 0
Look = ℕ → Option Kept

-- ---- common places

-- the places of a step at the depths 0 to 50
unfoldable pub places : Step → List ℕ
places step = map (place step) (range_with_len 0 deepest)

-- the longest list that both begin with
abbrev pub shared : List ℕ → List ℕ → List ℕ
shared [] ys = []
shared (x ∷ xs) [] = []
shared (x ∷ xs) (y ∷ ys) = cond (x == y) (x ∷ shared xs ys) []

abbrev pub common_with : List ℕ → List Step → List ℕ
common_with found [] = found
common_with found (step ∷ steps) = common_with (shared found (places step)) steps

abbrev pub common_of : List Step → List ℕ
common_of [] = []
common_of (step ∷ steps) = common_with (places step) steps

-- ---- what is remembered

abbrev pub leaf_part : List LeafEntry → Part
leaf_part fields = record {
  depth = None;
  count = length fields;
  height = fold (λ n e. max n (suc e.height)) 0 fields;
  name = leaf_name fields;
  common = common_of (map (λ e. e.step) fields);
}

abbrev pub common_at : Option Kept → List ℕ
common_at None = []
common_at (Some (kept_contents name)) = []
common_at (Some (kept_part p)) = p.common

-- the places above the depth of an inode, which its first child knows
abbrev pub ways : Look → ℕ → List InodeChild → List ℕ
ways look depth [] = []
ways look depth (c ∷ cs) = take depth (common_at (look c.at))

abbrev pub inode_part : Look → ℕ → List InodeChild → Part
inode_part look depth children = record {
  depth = Some depth;
  count = sum_by (λ c. c.count) children;
  height = fold (λ n c. max n c.height) 0 children;
  name = inode_name depth children;
  common = ways look depth children;
}

abbrev pub kept_of : Look → Record → Option Kept
kept_of look (Record.Contents bytes) = Some (kept_contents (sha256 bytes))
kept_of look (Record.Leaf fields) = Some (kept_part (leaf_part fields))
kept_of look (Record.Inode depth children) = Some (kept_part (inode_part look depth children))
kept_of look (Record.Commit c) = None
kept_of look (Record.BranchSet number name) = None
kept_of look (Record.TagSet number name) = None
kept_of look (Record.BranchRemove name) = None
kept_of look (Record.TagRemove name) = None
kept_of look (Record.BranchTable rows) = None
kept_of look (Record.TagTable rows) = None

abbrev pub kept_by : Look → Option Record → Option Kept
kept_by look None = None
kept_by look (Some r) = kept_of look r

abbrev pub Remembers : Look → (ℕ → Option Record) → Type 0
Remembers look records = (at : ℕ) → look at ≡ kept_by look (records at)

-- ---- tests

-- the record can be a part at this depth: an inode at its own, a leaf of few entries at any
abbrev pub InDepth : Option ℕ → ℕ → ℕ → Type 0
InDepth None count d = IsTrue (nat_le count leaf_limit || nat_le deepest d)
InDepth (Some k) count d = k ≡ d

abbrev pub AtDepth : ℕ → Part → Type 0
AtDepth d p = InDepth p.depth p.count d

abbrev pub EntryIs : Option Kept → LeafEntry → Type 0
EntryIs None e = ⊥
EntryIs (Some (kept_contents name)) e = (e.kind ≡ kinds.CONTENTS) × (e.height ≡ 0) × (e.name ≡ name)
EntryIs (Some (kept_part p)) e = (e.kind ≡ kinds.DIRECTORY) × AtDepth 0 p × (0 < p.count) × (e.height ≡ p.height) × (e.name ≡ p.name)

abbrev pub EntryPasses : Look → ℕ → LeafEntry → Type 0
EntryPasses look at e = (e.at < at) × EntryIs (look e.at) e

abbrev pub ChildIs : Option Kept → ℕ → List ℕ → InodeChild → Type 0
ChildIs None depth above c = ⊥
ChildIs (Some (kept_contents name)) depth above c = ⊥
ChildIs (Some (kept_part p)) depth above c = AtDepth (suc depth) p × (c.count ≡ p.count) × (c.height ≡ p.height) × (c.name ≡ p.name) × (take (suc depth) p.common ≡ above ++ c.index ∷ [])

abbrev pub ChildPasses : Look → ℕ → ℕ → List ℕ → InodeChild → Type 0
ChildPasses look at depth above c = (c.at < at) × ChildIs (look c.at) depth above c

pub record LeafPasses (look : Look) (at : ℕ) (fields : List LeafEntry) : Type 0 where
  pub each : AllByRecursion (EntryPasses look at) fields
  pub few : (length fields ≤ leaf_limit) ⊎ (length (common_of (map (λ e. e.step) fields)) ≡ deepest)
  pub bounded : length fields ≤ entries_limit

pub record InodePasses (look : Look) (at : ℕ) (depth : ℕ) (children : List InodeChild) : Type 0 where
  pub each : AllByRecursion (ChildPasses look at depth (ways look depth children)) children
  pub many : leaf_limit < sum_by (λ c. c.count) children
  pub bounded : sum_by (λ c. c.count) children ≤ entries_limit

pub record Memory : Type 0 where
  pub kept : Look
  pub names : List Hash

abbrev pub commit_name : CommitRecord → Hash
commit_name c = sha256 (hashed_commit c.root_name (map (λ p. p.name) c.parents) c.info)

abbrev pub RootIs : Option Kept → Hash → Type 0
RootIs None name = ⊥
RootIs (Some (kept_contents n)) name = ⊥
RootIs (Some (kept_part p)) name = AtDepth 0 p × (name ≡ p.name)

pub record CommitPasses (terms : Terms) (memory : Memory) (at : ℕ) (c : CommitRecord) : Type 0 where
  pub number : c.number ≡ terms.floor + length memory.names
  pub root_below : c.root_at < at
  pub root : RootIs (memory.kept c.root_at) c.root_name
  pub earlier : All (IsEarlier terms c.number) c.parents
  pub distinct : AllPairs (λ p q. (p.number ≢ q.number) ⊎ (p.number ≡ outside)) c.parents
  pub parents : All (λ p. terms.floor ≤ p.number → p.number ≢ outside → IfSome (slice_get memory.names (p.number - terms.floor)) (λ name. name ≡ p.name)) c.parents
  pub new_name : All (λ name. name ≢ commit_name c) memory.names

abbrev pub Passes : Terms → Memory → ℕ → Record → Type 0
Passes terms memory at (Record.Contents bytes) = Unit {0}
Passes terms memory at (Record.Leaf fields) = LeafPasses memory.kept at fields
Passes terms memory at (Record.Inode depth children) = InodePasses memory.kept at depth children
Passes terms memory at (Record.Commit c) = CommitPasses terms memory at c
Passes terms memory at (Record.BranchSet number name) = Unit {0}
Passes terms memory at (Record.TagSet number name) = Unit {0}
Passes terms memory at (Record.BranchRemove name) = Unit {0}
Passes terms memory at (Record.TagRemove name) = Unit {0}
Passes terms memory at (Record.BranchTable rows) = Unit {0}
Passes terms memory at (Record.TagTable rows) = Unit {0}

-- ---- what is remembered after a record

abbrev pub names_in : Record → List Hash
names_in (Record.Commit c) = commit_name c ∷ []
names_in r = []

pub record IsMore (memory : Memory) (at : ℕ) (r : Record) (after : Memory) : Type 0 where
  pub this : after.kept at ≡ kept_of memory.kept r
  pub others : (b : ℕ) → b ≢ at → after.kept b ≡ memory.kept b
  pub names : after.names ≡ memory.names ++ names_in r

abbrev pub IsBeyond : ℕ → Records → Type 0
IsBeyond at rs = AllByRecursion (λ (x : ℕ × Record). x.0 < at) rs

pub record IsTrueMemory (memory : Memory) (rs : Records) : Type 0 where
  pub remembers : Remembers memory.kept (present rs)
  pub good : (at : ℕ) (p : Part) → memory.kept at ≡ Some (kept_part p) → IsSomePart (present rs) at
  pub names : memory.names ≡ map commit_name (commits_in rs)
