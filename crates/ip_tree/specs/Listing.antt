-- The entries of a directory as a listing has them.
--     is_directory n      a directory stands at the node.      kind_at e      the step of an entry, and whether one stands there
--     kinds_of es      each step, and whether a directory stands there.      item_of e      its item
--     entry_kind s entries      whether a leaf's entry at a step is a directory.      kind_or kind old      the first of the two, where there is one
--     Adds es old new      the kinds of these entries stand at their steps, and elsewhere what stood there
use Rattle.std.specs.Prelude.{◌≡◌, Bool, true, false, not, ◌==◌, List, map, Option, Some, None, option_map}
use Rattle.std.specs.FinMap.Entries.{find}
use Rattle.ip_spec.specs.Path.{Step, bytes_cmp}
use Rattle.ip_spec.specs.Tree.{Tree, is_contents}
use Rattle.ip_spec.specs.Shape.{Entries}
use Rattle.ip_spec.specs.StoredParts.{entry_named}
use Rattle.ip_spec.specs.declared.kind.TheConstants as kinds
use Rattle.ip_spec.specs.declared.record.LeafEntry.{LeafEntry}
use Rattle.ip_spec.specs.declared.tree.Item.{Item}
use Rattle.ip_tree.specs.Node.{Node, Entry, stored, contents, directory}

abbrev pub is_directory : Node → Bool
is_directory (stored x) = x.reference.kind == kinds.DIRECTORY
is_directory (contents bytes) = false
is_directory (directory root ns) = true

abbrev pub kind_at : Entry → Step × Bool
kind_at e = (e.0, is_directory e.1)

abbrev pub kind_of : Tree → Bool
kind_of sub = not (is_contents sub)

abbrev pub kinds_of : Entries → List (Step × Bool)
kinds_of es = map (λ e. (e.0, kind_of e.1)) es

abbrev pub item_of : Step × Bool → Item
item_of e = record { step = e.0; dir = e.1 }

-- the kind of the first of a leaf's entries at a step
abbrev pub entry_kind : Step → List LeafEntry → Option Bool
entry_kind s entries = option_map (λ (e : LeafEntry). e.kind == kinds.DIRECTORY) (entry_named s entries)

abbrev pub kind_or : Option Bool → Option Bool → Option Bool
kind_or (Some kind) old = Some kind
kind_or None old = old

abbrev pub Adds : Entries → List (Step × Bool) → List (Step × Bool) → Type 0
Adds es old new = (s : Step) → find bytes_cmp s new ≡ kind_or (option_map kind_of (find bytes_cmp s es)) (find bytes_cmp s old)
