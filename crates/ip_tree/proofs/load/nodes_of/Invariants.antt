use Rattle.std.proofs.Common.{◌≡◌, map, ◌++◌}
use Rattle.ip_tree.specs.Reads.{node_of_entry}
use Rattle.ip_tree.specs.Shown.{shown_entry}
use Rattle.ip_tree.proofs.load.nodes_of.Given as goal

abbrev pub invariant-loop-entry : goal.invariant-loop-entry
invariant-loop-entry l = map shown_entry l.nodes.items ++ map node_of_entry l.entry-iterator.rest.items ≡ map node_of_entry l.initial.entry-iterator.rest.items
