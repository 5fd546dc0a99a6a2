-- What stands at a path of a lazy tree, as a node of its own.
--     IsPartAt records old t p n      it means what stands there, and knows the parts that are known there
--     Finds records old t p found      it is found, or nothing stands there
--     IsPartOf records w p n, FindsIn records w p found      the same by a view
--     as_node place      the code's place as a node
--     IsPlaceOf records w p n, FindsPlace records w p found      of a place: of a root's record the height is not told, and a root may be empty
--     walk_to records p r      the reference to which a path leads below another, over any records.      IsWalkTo records r p found      it is found
use Rattle.std.specs.Prelude.{◌≡◌, ◌==◌, ℕ, cond, [], ◌∷◌, ◌++◌, Option, Some, None, option_and_then, IsTrue, IsFalse}
use Rattle.ip_spec.specs.Path.{Path}
use Rattle.ip_spec.specs.declared.kind.TheConstants as kinds
use Rattle.ip_spec.specs.declared.record.Record.{Record}
use Rattle.ip_spec.specs.declared.record.Ref.{Ref}
use Rattle.ip_spec.specs.Shape.{deepest}
use Rattle.ip_spec.specs.StoredParts.{stored_part}
use Rattle.ip_spec.specs.Tree.{Tree, subtree, is_empty}
use Rattle.ip_spec.specs.View.{View, Part, is_nil}
use Rattle.ip_tree.specs.Node.{Node, stored, contents, directory}
use Rattle.ip_tree.specs.Meaning.{NodeIs, DirectoryIs}
use Rattle.ip_tree.specs.Known.{knows}
use Rattle.ip_tree.specs.Reads.{Reaches, entry_below}
use Rattle.ip_tree.specs.Shown.{shown_directory}
use Rattle.ip_tree.specs.declared.look.Place.{Place}
use Rattle.ip_tree.specs.declared.look.Place.TheVariants as place
use Rattle.ip_tree.specs.declared.node.Stored.{Stored}

abbrev pub under : Path → Part → Part
under p part = record { path = p ++ part.path; indexes = part.indexes }

pub record IsPartAt (records : ℕ → Option Record) (old : Node) (t : Tree) (p : Path) (n : Node) : Type 0 where
  pub means : NodeIs records n (subtree t p)
  pub known : (part : Part) → knows records n part ≡ knows records old (under p part)

abbrev pub Finds : (ℕ → Option Record) → Node → Tree → Path → Option Node → Type 0
Finds records old t p None = IsTrue (is_empty (subtree t p))
Finds records old t p (Some n) = IsPartAt records old t p n

pub record IsPartOf (records : ℕ → Option Record) (w : View) (p : Path) (n : Node) : Type 0 where
  pub means : NodeIs records n (subtree w.map p)
  pub known : (part : Part) → knows records n part ≡ w.known (under p part)

abbrev pub FindsIn : (ℕ → Option Record) → View → Path → Option Node → Type 0
FindsIn records w p None = IsTrue (is_empty (subtree w.map p))
FindsIn records w p (Some n) = IsPartOf records w p n

-- ---- where it stands

abbrev pub as_node : Place → Node
as_node (place.Stored x) = stored x
as_node (place.Contents b) = contents b.now
as_node (place.Directory d) = shown_directory d.now

abbrev pub IsPlaceOf : (ℕ → Option Record) → View → Path → Node → Type 0
IsPlaceOf records w p (stored x) = Reaches records x.reference (subtree w.map p) × ((part : Part) → stored_part records x.reference.at part.path part.indexes ≡ w.known (under p part))
IsPlaceOf records w p (contents bytes) = IsPartOf records w p (contents bytes)
IsPlaceOf records w p (directory root ns) = DirectoryIs records root ns (subtree w.map p) × ((part : Part) → knows records (directory root ns) part ≡ w.known (under p part))

-- the root is a directory though it may be empty
abbrev pub FindsPlace : (ℕ → Option Record) → View → Path → Option Node → Type 0
FindsPlace records w p None = IsTrue (is_empty (subtree w.map p)) × IsFalse (is_nil p)
FindsPlace records w p (Some n) = IsPlaceOf records w p n

-- ---- over any records

abbrev pub walk_by : (Ref → Option Ref) → Option Stored → Option Ref
walk_by below None = None
walk_by below (Some x) = below x.reference

abbrev pub walk_to : (ℕ → Option Record) → Path → Ref → Option Ref
walk_to records [] r = Some r
walk_to records (s ∷ p) r = cond (r.kind == kinds.CONTENTS) None (walk_by (walk_to records p) (entry_below records deepest r.at s))

abbrev pub ref_of : Node → Option Ref
ref_of (stored x) = Some x.reference
ref_of (contents bytes) = None
ref_of (directory root ns) = None

abbrev pub IsWalkTo : (ℕ → Option Record) → Ref → Path → Option Node → Type 0
IsWalkTo records r path found = option_and_then ref_of found ≡ walk_to records path r
