use Rattle.std.proofs.Common.{◌≡◌, map}
use Rattle.ip_model_trees.specs.Places.{child_parts, children_below}
use Rattle.ip_model_trees.proofs.places.children.Given as goal

abbrev pub invariant-loop-index : goal.invariant-loop-index
invariant-loop-index l = map child_parts l.all.items ≡ children_below l.depth l.index l.entries
