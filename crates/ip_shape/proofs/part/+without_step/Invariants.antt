use Rattle.std.proofs.Common.{◌-◌}
use Rattle.ip_spec.specs.Shape.{deepest}
use Rattle.ip_shape.proofs.part.+without_step.Given as goal

abbrev pub decreases-without_step : goal.decreases-without_step
decreases-without_step g l = deepest - l.depth
