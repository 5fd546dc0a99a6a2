use Rattle.std.proofs.Common.{◌≡◌, max, drop}
use Rattle.ip_shape.specs.Heights.{leaf_height}
use Rattle.ip_shape.proofs.height.leaf_height.Given as goal

abbrev pub invariant-loop-entry : goal.invariant-loop-entry
invariant-loop-entry l = max l.height (leaf_height (drop l.entry-index l.entries)) ≡ leaf_height l.entries
