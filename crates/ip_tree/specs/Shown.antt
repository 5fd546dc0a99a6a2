-- The nodes of the code as contracts see them.
use Rattle.std.specs.Prelude.{List, map}
use Rattle.ip_spec.specs.Path.{Step}
use Rattle.ip_shape.specs.declared.dir.Dir.{Dir}
use Rattle.ip_shape.specs.Directory.{root_of, entries_in}
use Rattle.ip_tree.specs.Node as view
use Rattle.ip_tree.specs.Node.{Entry, nodes_of}
use Rattle.ip_tree.specs.declared.node.Stored.{Stored}
use Rattle.ip_tree.specs.declared.node.Node.{Node}
use Rattle.ip_tree.specs.declared.node.Node.TheOpen.{Node-F}
use Rattle.ip_tree.specs.declared.node.Node.TheOpen as layer
use Rattle.ip_tree.specs.declared.node.Node.TheFolds.{fold-Node}
use Rattle.ip_tree.specs.declared.tree.Root.{Root}
use Rattle.ip_tree.specs.declared.tree.Root.TheVariants.{Stored as StoredRoot, Loaded}

abbrev pub node_step : Node-F view.Node → view.Node
node_step (layer.Stored x) = view.stored x
node_step (layer.Contents bytes) = view.contents bytes
node_step (layer.Directory d) = view.directory (root_of d) (nodes_of (entries_in d))

abbrev pub shown : Node → view.Node
shown = fold-Node view.Node node_step

abbrev pub shown_entry : Step × Node → Entry
shown_entry e = (e.0, shown e.1)

-- the entries of a directory whose parts were read
abbrev pub entries_shown : Dir Node Stored → List Entry
entries_shown d = map shown_entry (entries_in d)

abbrev pub shown_directory : Dir Node Stored → view.Node
shown_directory d = view.directory (root_of d) (nodes_of (entries_shown d))

abbrev pub shown_root : Root → view.Root
shown_root (StoredRoot r) = view.unread r
shown_root (Loaded d) = view.loaded (root_of d) (nodes_of (entries_shown d))
