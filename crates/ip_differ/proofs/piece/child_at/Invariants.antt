use Rattle.std.proofs.Common.{◌≡◌, drop}
use Rattle.ip_shape.specs.Reading.{child_in}
use Rattle.ip_tree.specs.Reads.{children_read}
use Rattle.ip_differ.proofs.piece.child_at.Given as goal

abbrev pub invariant-loop-child : goal.invariant-loop-child
invariant-loop-child l = child_in l.index (children_read (drop l.child-index l.children)) ≡ child_in l.index (children_read l.children)
