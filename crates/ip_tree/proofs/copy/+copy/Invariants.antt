use Rattle.std.proofs.Common.{◌≡◌, ◌++◌, List}
use Rattle.ip_shape.specs.Directory.{entries_in}
use Rattle.ip_spec.specs.Path.{Step}
use Rattle.ip_tree.specs.declared.node.Node.{Node}
use Rattle.ip_tree.proofs.Copies.{AreCopies}
use Rattle.ip_tree.proofs.copy.+copy.Given as goal

abbrev pub invariant-copy_directory-loop-step : goal.invariant-copy_directory-loop-step
invariant-copy_directory-loop-step l = (done : List (Step × Node)) × (done ++ l.step-iterator ≡ entries_in l.dir) × AreCopies done l.entries.items
