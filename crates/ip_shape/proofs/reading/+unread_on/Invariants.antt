use Rattle.std.proofs.Common.{◌-◌}
use Rattle.ip_spec.specs.Shape.{deepest}
use Rattle.ip_shape.proofs.reading.+unread_on.Given as goal

abbrev pub decreases-unread_on : goal.decreases-unread_on
decreases-unread_on g l = deepest - l.depth
