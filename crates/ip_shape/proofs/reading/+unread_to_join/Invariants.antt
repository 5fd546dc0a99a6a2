use Rattle.std.proofs.Common.{◌-◌}
use Rattle.ip_spec.specs.Shape.{deepest}
use Rattle.ip_shape.proofs.reading.+unread_to_join.Given as goal

abbrev pub decreases-unread_to_join : goal.decreases-unread_to_join
decreases-unread_to_join g l = deepest - l.depth
