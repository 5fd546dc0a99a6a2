use Rattle.std.proofs.Common.{◌-◌}
use Rattle.ip_spec.specs.Shape.{deepest}
use Rattle.ip_shape.proofs.part.+forgotten.Given as goal

abbrev pub decreases-forgotten : goal.decreases-forgotten
decreases-forgotten g l = deepest - l.depth
