use Rattle.std.proofs.Common.{take}
use Rattle.ip_shape.specs.Shape.{AreSteps, AreUnited}
use Rattle.ip_shape.proofs.part.add_all.Given as goal

abbrev pub invariant-loop-i : goal.invariant-loop-i
invariant-loop-i l = AreSteps l.fn.into.items → AreSteps l.into.items × AreUnited l.fn.into.items (take l.i l.steps) l.into.items
