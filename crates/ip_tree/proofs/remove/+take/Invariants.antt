use Rattle.std.proofs.Common.{◌+◌, ◌*◌, length}
use Rattle.ip_tree.proofs.remove.+take.Given as goal

abbrev pub decreases-take_at : goal.decreases-take_at
decreases-take_at g l = 2 * length l.steps.now + 1

abbrev pub decreases-take_in : goal.decreases-take_in
decreases-take_in g l = 2 * length l.steps.now
