use Rattle.ip_object.specs.Body.{left_in, IsInside}
use Rattle.ip_object.specs.Lists.{ReadBelow}
use Rattle.ip_object.proofs.loops.take_children.Given as goal

abbrev pub invariant-loop-index : goal.invariant-loop-index
invariant-loop-index l = record { inside : IsInside l.body; below : ReadBelow l.fn.bitmap l.index l.children.items (left_in l.fn.body) (left_in l.body) }
