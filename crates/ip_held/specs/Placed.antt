-- Where the records of a store's commits stand.
--     places_in records      the offsets of the commit records, in their order
--     AreRising from places      they ascend
--     IsSpaceOf s space      a space is that of a slot's records
--     SpellsCommit records n c m      a record spells the commit of a number, whose tree stands where it says
--     IsCommitAt records n place m      such a record stands at a place
--     AreCommitsAt records number places ms      each of the commits from this number on stands so, at its place
use Rattle.std.specs.Prelude.{◌≡◌, ℕ, suc, ◌+◌, ◌≤◌, List, [], ◌∷◌, map, filter_map, Option, Some, None}
use Rattle.ip_spec.specs.declared.record.Record.{Record}
use Rattle.ip_spec.specs.declared.record.CommitRecord.{CommitRecord}
use Rattle.ip_spec.specs.Record.{name_of}
use Rattle.ip_spec.specs.Shape.{root_name}
use Rattle.ip_spec.specs.TreeAt.{Records, TreeAt}
use Rattle.ip_spec.specs.Repository.{Commit}
use Rattle.ip_image.specs.declared.slot.Slot.{Slot}
use Rattle.ip_image.specs.Slot.{layout_of}
use Rattle.ip_image.specs.Standing.{parent_of}
use Rattle.ip_space.specs.SpaceView.{SpaceView}

abbrev pub place_of : ℕ × Record → Option ℕ
place_of (at, Record.Commit c) = Some at
place_of (at, r) = None

abbrev pub places_in : Records → List ℕ
places_in records = filter_map place_of records

-- ascending, from here on
abbrev pub AreRising : ℕ → List ℕ → Type 0
AreRising from [] = Unit {0}
AreRising from (at ∷ places) = (from ≤ at) × AreRising (at + 1) places

pub record IsSpaceOf (s : Slot) (space : SpaceView) : Type 0 where
  pub layout : space.layout ≡ layout_of s
  -- while no generation is live there is no mapping
  pub runs : s.live ≡ 0 → space.runs ≡ []

pub record SpellsCommit (records : ℕ → Option Record) (n : ℕ) (c : CommitRecord) (m : Commit) : Type 0 where
  pub number : c.number ≡ n
  pub name : name_of (Record.Commit c) ≡ Some m.name
  pub parents : m.parents ≡ map parent_of c.parents
  pub info : m.info ≡ c.info
  pub root : c.root_name ≡ root_name m.tree
  pub tree : TreeAt records c.root_at m.tree

pub record IsCommitAt (records : ℕ → Option Record) (n place : ℕ) (m : Commit) : Type 0 where
  pub spelled : CommitRecord
  pub here : records place ≡ Some (Record.Commit spelled)
  pub spells : SpellsCommit records n spelled m

abbrev pub AreCommitsAt : (ℕ → Option Record) → ℕ → List ℕ → List Commit → Type 0
AreCommitsAt records number [] [] = Unit {0}
AreCommitsAt records number [] (m ∷ ms) = ⊥
AreCommitsAt records number (place ∷ places) [] = ⊥
AreCommitsAt records number (place ∷ places) (m ∷ ms) = IsCommitAt records number place m × AreCommitsAt records (suc number) places ms
