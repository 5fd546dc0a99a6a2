-- What two directories have at the steps at which they may differ.
--     node_at d s      the node at a step of a directory, where its part was read
--     entry_in place s entry      what a pair tells of a step of what stands at a place, as a node
--     IsDirectoryAt records w p found      what was found at a path tells the entries there; where nothing was found, no step stands below
--     IsUnread node      nothing, or a record that was not read
--     IsSameAt records v w p q      at a path of each of two trees stands the same, which neither has read: one record, or nothing
--     Differs records v w p q one other s found      at a step of both: where nothing is told, both have the same, unread; or it is told what stands in each
use Rattle.std.specs.Prelude.{ℕ, [], ◌∷◌, ◌++◌, Option, Some, None, option_map, IsTrue}
use Rattle.std.specs.FinMap.Entries.{find}
use Rattle.ip_spec.specs.Path.{Step, Path, bytes_cmp}
use Rattle.ip_spec.specs.Tree.{subtree, is_empty}
use Rattle.ip_spec.specs.View.{View}
use Rattle.ip_spec.specs.declared.record.Record.{Record}
use Rattle.ip_shape.specs.Directory.{entries_in}
use Rattle.ip_shape.specs.declared.dir.Dir.{Dir}
use Rattle.ip_tree.specs.Finding.{FindsIn, IsPlaceOf}
use Rattle.ip_tree.specs.Node as view
use Rattle.ip_tree.specs.Shown.{shown}
use Rattle.ip_tree.specs.declared.look.Place.{Place}
use Rattle.ip_tree.specs.declared.look.Place.TheVariants as place
use Rattle.ip_tree.specs.declared.node.Node.{Node}
use Rattle.ip_tree.specs.declared.node.Stored.{Stored}
use Rattle.ip_differ.specs.declared.pairs.Entry.{Entry}
use Rattle.ip_differ.specs.declared.pairs.Entry.TheVariants as entry
use Rattle.ip_differ.specs.declared.pairs.Pair.{Pair}

abbrev pub node_at : Dir Node Stored → Step → Option view.Node
node_at d s = option_map shown (find bytes_cmp s (entries_in d))

-- only a directory of which parts were read has any at it
abbrev pub read_in : Option Place → Step → Option view.Node
read_in None s = None
read_in (Some (place.Stored x)) s = None
read_in (Some (place.Contents b)) s = None
read_in (Some (place.Directory d)) s = node_at d.now s

abbrev pub entry_in : Option Place → Step → Option Entry → Option view.Node
entry_in o s None = None
entry_in o s (Some (entry.Stored x)) = Some (view.stored x)
entry_in o s (Some entry.Read) = read_in o s

abbrev pub IsDirectoryAt : (ℕ → Option Record) → View → Path → Option view.Node → Type 0
IsDirectoryAt records w p None = (s : Step) → IsTrue (is_empty (subtree w.map (p ++ s ∷ [])))
IsDirectoryAt records w p (Some n) = IsPlaceOf records w p n

abbrev pub IsUnread : Option view.Node → Type 0
IsUnread None = Unit {0}
IsUnread (Some (view.stored x)) = Unit {0}
IsUnread (Some (view.contents bytes)) = ⊥
IsUnread (Some (view.directory root ns)) = ⊥

pub record IsSameAt (records : ℕ → Option Record) (v w : View) (p q : Path) : Type 0 where
  pub node : Option view.Node
  pub unread : IsUnread node
  pub one : FindsIn records v p node
  pub other : FindsIn records w q node

abbrev pub Differs : (ℕ → Option Record) → View → View → Path → Path → Option Place → Option Place → Step → Option Pair → Type 0
Differs records v w p q one other s None = IsSameAt records v w (p ++ s ∷ []) (q ++ s ∷ [])
Differs records v w p q one other s (Some pair) = FindsIn records v (p ++ s ∷ []) (entry_in one s pair.one) × FindsIn records w (q ++ s ∷ []) (entry_in other s pair.other)
