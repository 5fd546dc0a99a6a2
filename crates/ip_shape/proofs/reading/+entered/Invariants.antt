use Rattle.std.proofs.Common.{◌-◌, length}
use Rattle.ip_shape.proofs.reading.+entered.Given as goal

abbrev pub decreases-entered : goal.decreases-entered
decreases-entered g l = length l.indexes.now - l.at
