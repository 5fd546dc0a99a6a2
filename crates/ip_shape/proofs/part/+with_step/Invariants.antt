use Rattle.std.proofs.Common.{◌-◌}
use Rattle.ip_spec.specs.Shape.{deepest}
use Rattle.ip_shape.proofs.part.+with_step.Given as goal

abbrev pub decreases-with_step : goal.decreases-with_step
decreases-with_step g l = deepest - l.depth
