use Rattle.std.proofs.Common.{◌≡◌, map}
use Rattle.ip_shape.specs.Directory.{entries_in, root_of}
use Rattle.ip_tree.specs.Heights.{highest, unread_height}
use Rattle.ip_tree.specs.Node.{nodes_of}
use Rattle.ip_tree.specs.Shown.{shown_entry}
use Rattle.ip_tree.proofs.height.+height.Given as goal

abbrev pub invariant-height_in-loop-node : goal.invariant-height_in-loop-node
invariant-height_in-loop-node l = highest (nodes_of (map shown_entry l.node-iterator)) l.most ≡ highest (nodes_of (map shown_entry (entries_in l.dir))) (unread_height (root_of l.dir))
