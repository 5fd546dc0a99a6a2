-- What loading a lazy tree does, and an edit of it that fails.
--     IsDirectory records n t      a directory, perhaps the empty root
--     IsSame Means records old new t      the node still means the tree, and knows the same parts
--     IsOpenTo s n      a directory of which each part on the way to the step was read
--     IsOpen n      read, if it is a directory: its own record was
--     IsReadAt is root      the part at the indexes was read.      IsNewAt path n      the first of the steps stands nowhere in a directory, and its way was read
--     known_after known path map part      what is known after an edit at a path that leaves this map
--     IsPlaceFault p t fault, NotPlaced      why nothing was put at a path, and that the node is the same then
--     is_full p t      the directory that a path needs a new entry in has as many as it may
use Rattle.std.specs.Prelude.{◌≡◌, ℕ, Bool, false, not, ◌&&◌, List, [], ◌∷◌, length, Option, Some, None, IsTrue, nat_le, if◌then◌else◌}
use Rattle.std.specs.FinMap.Entries.{find}
use Rattle.ip_base.specs.declared.limit.Limit.TheVariants.{Entries}
use Rattle.ip_spec.specs.Path.{Step, Path, bytes_cmp}
use Rattle.ip_spec.specs.declared.kind.TheConstants as kinds
use Rattle.ip_spec.specs.declared.record.Record.{Record}
use Rattle.ip_spec.specs.Step.{entries_limit}
use Rattle.ip_spec.specs.Tree.{Tree, entries_of}
use Rattle.ip_spec.specs.View.{Part, is_part, touches}
use Rattle.ip_shape.specs.Loaded.{unread_in, way_to}
use Rattle.ip_shape.specs.Shape.{has}
use Rattle.ip_shape.specs.declared.part.Part as shape
use Rattle.ip_tree.specs.Node.{Node, Nodes, none, stored, contents, directory, steps_in}
use Rattle.ip_tree.specs.Meaning.{NodeIs, DirectoryIs}
use Rattle.ip_tree.specs.Known.{knows}
use Rattle.ip_tree.specs.Reads.{IsFree}
use Rattle.ip_tree.specs.declared.node.Stored.{Stored}
use Rattle.ip_tree.specs.declared.tree.TreeFault.{TreeFault}
use Rattle.ip_tree.specs.declared.tree.TreeFault.TheVariants.{Limit}

abbrev pub IsDirectory : (ℕ → Option Record) → Node → Tree → Type 0
IsDirectory records (stored x) t = ⊥
IsDirectory records (contents bytes) t = ⊥
IsDirectory records (directory root ns) t = DirectoryIs records root ns t

pub record IsSame (Means : Node → Tree → Type 0) (records : ℕ → Option Record) (old new : Node) (t : Tree) : Type 0 where
  pub means : Means new t
  pub known : (part : Part) → knows records new part ≡ knows records old part

-- each part on the way to a step was read
abbrev pub IsOpenTo : Step → Node → Type 0
IsOpenTo s (stored x) = ⊥
IsOpenTo s (contents bytes) = ⊥
IsOpenTo s (directory root ns) = unread_in (way_to s) root ≡ None

abbrev pub nodes_in : Node → Nodes
nodes_in (stored x) = none
nodes_in (contents bytes) = none
nodes_in (directory root ns) = ns

abbrev pub IsNewAt : Path → Node → Type 0
IsNewAt [] n = ⊥
IsNewAt (s ∷ p) n = IsOpenTo s n × (has s (steps_in (nodes_in n)) ≡ false)

abbrev pub IsReadAt : List ℕ → shape.Part Stored → Type 0
IsReadAt is root = (x : Stored) → unread_in is root ≡ Some (x, []) → ⊥

abbrev pub IsOpen : Node → Type 0
IsOpen (stored x) = x.reference.kind ≡ kinds.CONTENTS
IsOpen (contents bytes) = Unit {0}
IsOpen (directory root ns) = Unit {0}

-- the parts on the way to a step were read besides
pub record IsOpened (records : ℕ → Option Record) (s : Step) (old new : Node) (t : Tree) : Type 0 where
  pub same : IsSame (IsDirectory records) records old new t
  pub way : IsOpenTo s new

pub record IsUnfolded (records : ℕ → Option Record) (old new : Node) (t : Tree) : Type 0 where
  pub same : IsSame (NodeIs records) records old new t
  pub unfolded : IsOpen new

-- it failed: the node is the same
pub record IsKept (Means : Node → Tree → Type 0) (records : ℕ → Option Record) (old new : Node) (t : Tree) (fault : TreeFault) : Type 0 where
  pub same : IsSame Means records old new t
  pub cause : IsFree fault

-- the known parts that an edit leaves: those of what it leaves that it does not touch
abbrev pub known_after : (Part → Option ℕ) → Path → Tree → Part → Option ℕ
known_after known path map part = if is_part map part && not (touches part path) then known part else None

abbrev pub full_by : (Tree → Bool) → List (Step × Tree) → Option Tree → Bool
full_by deeper es None = nat_le entries_limit (length es)
full_by deeper es (Some sub) = deeper sub

abbrev pub is_full : Path → Tree → Bool
is_full [] t = false
is_full (s ∷ p) t = full_by (is_full p) (entries_of t).entries (find bytes_cmp s (entries_of t).entries)

-- the limit exactly where it is full
abbrev pub PlaceFaultBy : Bool → TreeFault → Type 0
PlaceFaultBy full (Limit Entries) = IsTrue full
PlaceFaultBy full fault = IsFree fault

abbrev pub IsPlaceFault : Path → Tree → TreeFault → Type 0
IsPlaceFault path t = PlaceFaultBy (is_full path t)

-- nothing was put: the node is the same
pub record NotPlaced (Means : Node → Tree → Type 0) (records : ℕ → Option Record) (path : Path) (fault : TreeFault) (old new : Node) (t : Tree) : Type 0 where
  pub same : IsSame Means records old new t
  pub cause : IsPlaceFault path t fault
