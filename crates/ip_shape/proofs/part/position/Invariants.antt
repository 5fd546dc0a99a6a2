use Rattle.std.proofs.Common.{◌≡◌, take, drop, ◌++◌}
use Rattle.ip_shape.specs.Shape.{add}
use Rattle.ip_shape.proofs.part.position.Given as goal

abbrev pub invariant-loop-i : goal.invariant-loop-i
invariant-loop-i l = add l.step l.steps ≡ take l.i l.steps ++ add l.step (drop l.i l.steps)
