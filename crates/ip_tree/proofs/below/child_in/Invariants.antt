use Rattle.std.proofs.Common.{◌≡◌, drop}
use Rattle.ip_spec.specs.StoredParts.{child_with}
use Rattle.ip_tree.proofs.below.child_in.Given as goal

abbrev pub invariant-loop-child : goal.invariant-loop-child
invariant-loop-child l = child_with l.index (drop l.child-index l.children) ≡ child_with l.index l.children
