-- What putting a node at a path of a lazy tree does.
--     behind_or inner rest other      of what lies behind a path it is what is put there
--     IsPlaced Means records path n sub old new t      it means the tree after placing what the node means; it knows the parts of the node
--         behind the path, and of the others those that the path does not touch
--     Places Means records path n sub old new t result      it is placed, or the node is the same
--     IsChain records path n sub new      new directories one in another lead down to the node
--     PlacesTree records path n sub new v result      the same at the root, by the tree's view
use Rattle.std.specs.Prelude.{◌≡◌, ℕ, Option, Some, None, IsFalse, Result, Ok, Err}
use Rattle.ip_spec.specs.Path.{Path, after_prefix}
use Rattle.ip_spec.specs.declared.record.Record.{Record}
use Rattle.ip_spec.specs.Tree.{Tree, no_tree, place}
use Rattle.ip_spec.specs.View.{View, Part}
use Rattle.ip_tree.specs.Node.{Node}
use Rattle.ip_tree.specs.Meaning.{NodeIs, RootIs}
use Rattle.ip_tree.specs.Known.{knows, known_of}
use Rattle.ip_tree.specs.Edits.{is_full, known_after, IsPlaceFault, NotPlaced}
use Rattle.ip_tree.specs.Shown.{shown_root}
use Rattle.ip_tree.specs.TreeView.{IsView}
use Rattle.ip_tree.specs.declared.tree.Tree as code
use Rattle.ip_tree.specs.declared.tree.TreeFault.{TreeFault}

abbrev pub behind_or : {X : Type 0} → (Path → Option X) → Option Path → Option X → Option X
behind_or inner (Some rest) other = inner rest
behind_or inner None other = other

pub record IsPlaced (Means : Node → Tree → Type 0) (records : ℕ → Option Record) (path : Path) (n : Node) (sub : Tree) (old new : Node) (t : Tree) : Type 0 where
  pub means : Means new (place t path sub)
  pub known : (part : Part) → knows records new part
      ≡ behind_or (λ rest. knows records n (record { path = rest; indexes = part.indexes })) (after_prefix path part.path) (known_after (knows records old) path (place t path sub) part)
  pub room : IsFalse (is_full path t)

abbrev pub Places : (Node → Tree → Type 0) → (ℕ → Option Record) → Path → Node → Tree → Node → Node → Tree → Result (Unit {0}) TreeFault → Type 0
Places Means records path n sub old new t (Ok done) = IsPlaced Means records path n sub old new t
Places Means records path n sub old new t (Err fault) = NotPlaced Means records path fault old new t

-- ---- a chain of new directories down to a node

pub record IsChain (records : ℕ → Option Record) (path : Path) (n : Node) (sub : Tree) (new : Node) : Type 0 where
  pub means : NodeIs records new (place no_tree path sub)
  pub known : (part : Part) → knows records new part ≡ behind_or (λ rest. knows records n (record { path = rest; indexes = part.indexes })) (after_prefix path part.path) None

-- ---- at the root

pub record IsPlacedIn (records : ℕ → Option Record) (path : Path) (n : Node) (sub : Tree) (new : code.Tree) (v : View) : Type 0 where
  pub root : RootIs records (shown_root new.root) (place v.map path sub)
  pub oldest : v.oldest ≡ new.oldest
  pub known : (part : Part) → known_of records (shown_root new.root) part
      ≡ behind_or (λ rest. knows records n (record { path = rest; indexes = part.indexes })) (after_prefix path part.path) (known_after v.known path (place v.map path sub) part)
  pub room : IsFalse (is_full path v.map)

pub record IsNotPlacedIn (records : ℕ → Option Record) (path : Path) (new : code.Tree) (v : View) (fault : TreeFault) : Type 0 where
  pub view : IsView records new v
  pub cause : IsPlaceFault path v.map fault

abbrev pub PlacesTree : (ℕ → Option Record) → Path → Node → Tree → code.Tree → View → Result (Unit {0}) TreeFault → Type 0
PlacesTree records path n sub new v (Ok done) = IsPlacedIn records path n sub new v
PlacesTree records path n sub new v (Err fault) = IsNotPlacedIn records path new v fault
