use Rattle.std.proofs.Common.{◌≡◌, length}
use Rattle.ip_shape.specs.Reading.{placed_from}
use Rattle.ip_shape.proofs.reading.with_children.Given as goal

abbrev pub invariant-loop-child : goal.invariant-loop-child
invariant-loop-child g l = placed_from l.left.items l.placed.items ≡ placed_from l.initial.left.items l.initial.placed.items

abbrev pub decreases-loop-child : goal.decreases-loop-child
decreases-loop-child g l = length l.left.items
