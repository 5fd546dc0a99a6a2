-- Which tree a lazy tree means over records.
--     SpellsPart records depth x es      the record spells the part of a directory, at the depth, that has these entries
--     StoredIs records x sub      the record, which was not read, spells the tree
--     HasSteps root read es      the parts are the one shape of the steps of the entries, and these are the steps of the parts that were read
--     SpellsAt records es is x      the record spells the part of the directory's entries at these indexes, which is not empty but for the root
--     KnowsParts records root es      each record that is known, or that is yet to be read, spells the part at its indexes
--     NodeIs records n sub      the node means the tree.      NodesAre records ns xs      the nodes mean what stands at their steps
--     DirectoryIs records root ns t      a directory, perhaps the empty root.      RootIs records root t      the root
use Rattle.std.specs.Prelude.{◌≡◌, ℕ, ◌<◌, Bool, List, [], ◌∷◌, length, map, filter, Option, Some, is_none, IsFalse, IsSomeAnd}
use Rattle.std.specs.FinMap.Entries.{find}
use Rattle.ip_spec.specs.Path.{Bytes, Step, bytes_cmp}
use Rattle.ip_spec.specs.declared.kind.TheConstants as kinds
use Rattle.ip_spec.specs.declared.record.Ref.{Ref}
use Rattle.ip_spec.specs.declared.record.Record.{Record}
use Rattle.ip_spec.specs.Tree as Tree
use Rattle.ip_spec.specs.Tree.{Tree, entries_of, is_empty, is_contents}
use Rattle.ip_spec.specs.Shape.{Entries, child_of, root_name, part, name_of_part, height_of_part, deepest}
use Rattle.ip_spec.specs.TreeAt.{PartAt}
use Rattle.ip_shape.specs.Shape.{AreSteps, IsPart}
use Rattle.ip_shape.specs.Loaded.{known_in, unread_in, way_to}
use Rattle.ip_shape.specs.declared.part.Part.{Part}
use Rattle.ip_tree.specs.Node.{Node, Nodes, Root, stored, contents, directory, none, first, unread, loaded, steps_in}
use Rattle.ip_tree.specs.declared.node.Stored.{Stored}

-- a directory that is not empty
pub record IsSome (t : Tree) : Type 0 where
  pub directory : IsFalse (is_contents t)
  pub some : IsFalse (is_empty t)

pub record SpellsPart (records : ℕ → Option Record) (depth : ℕ) (x : Stored) (es : Entries) : Type 0 where
  pub part : PartAt records depth x.reference.at es
  pub kind : x.reference.kind ≡ kinds.DIRECTORY
  pub name : x.reference.name ≡ name_of_part depth es
  pub height : x.height ≡ height_of_part es

pub data StoredIs (records : ℕ → Option Record) (x : Stored) : Tree → Type 0 where
  contents_in : (bytes : Bytes) → records x.reference.at ≡ Some (Record.Contents bytes) → x.height ≡ 0 → (x.reference.kind, x.reference.name) ≡ child_of (Tree.contents bytes) → StoredIs records x (Tree.contents bytes)
  directory_in : (sub : Tree) → IsSome sub → SpellsPart records 0 x (entries_of sub).entries → StoredIs records x sub

-- a root's record, of which the height is not told
pub record Spells (records : ℕ → Option Record) (r : Ref) (t : Tree) : Type 0 where
  pub part : PartAt records 0 r.at (entries_of t).entries
  pub kind : r.kind ≡ kinds.DIRECTORY
  pub name : r.name ≡ root_name t

abbrev pub is_read : Part Stored → Step → Bool
is_read root s = is_none (unread_in (way_to s) root)

abbrev pub steps_of : Entries → List Step
steps_of es = map (λ e. e.0) es

pub record HasSteps (root : Part Stored) (read : List Step) (es : Entries) : Type 0 where
  pub ascend : AreSteps (steps_of es)
  pub shape : IsPart deepest 0 (steps_of es) root
  pub held : read ≡ filter (is_read root) (steps_of es)

-- no record is known of an empty part, but for that of an empty root
abbrev pub HasEntries : Entries → List ℕ → Type 0
HasEntries es [] = Unit {0}
HasEntries es (i ∷ is) = 0 < length (part es (i ∷ is))

pub record SpellsAt (records : ℕ → Option Record) (es : Entries) (is : List ℕ) (x : Stored) : Type 0 where
  pub spells : SpellsPart records (length is) x (part es is)
  pub some : HasEntries es is

pub record KnowsParts (records : ℕ → Option Record) (root : Part Stored) (es : Entries) : Type 0 where
  pub known : (is : List ℕ) (x : Stored) → known_in is root ≡ Some x → SpellsAt records es is x
  pub unread : (is : List ℕ) (x : Stored) → unread_in is root ≡ Some (x, []) → SpellsAt records es is x

abbrev mutual
  pub NodeIs : (ℕ → Option Record) → Node → Tree → Type 0
  NodeIs records (stored x) sub = StoredIs records x sub
  NodeIs records (contents bytes) sub = sub ≡ Tree.contents bytes
  NodeIs records (directory root ns) sub =
      IsSome sub × HasSteps root (steps_in ns) (entries_of sub).entries × KnowsParts records root (entries_of sub).entries × NodesAre records ns (entries_of sub).entries

  pub NodesAre : (ℕ → Option Record) → Nodes → Entries → Type 0
  NodesAre records none xs = Unit {0}
  NodesAre records (first s n ns) xs = IsSomeAnd (find bytes_cmp s xs) (λ sub. NodeIs records n sub) × NodesAre records ns xs

pub record DirectoryIs (records : ℕ → Option Record) (root : Part Stored) (ns : Nodes) (t : Tree) : Type 0 where
  pub directory : IsFalse (is_contents t)
  pub steps : HasSteps root (steps_in ns) (entries_of t).entries
  pub parts : KnowsParts records root (entries_of t).entries
  pub nodes : NodesAre records ns (entries_of t).entries

abbrev pub RootIs : (ℕ → Option Record) → Root → Tree → Type 0
RootIs records (unread r) t = IsFalse (is_contents t) × Spells records r t
RootIs records (loaded root ns) t = DirectoryIs records root ns t
