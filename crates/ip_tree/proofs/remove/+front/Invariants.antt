use Rattle.std.proofs.Common.{◌+◌, ◌*◌, length}
use Rattle.ip_tree.proofs.remove.+front.Given as goal

abbrev pub decreases-front_at : goal.decreases-front_at
decreases-front_at g l = 2 * length l.steps.now + 1

abbrev pub decreases-front_in : goal.decreases-front_in
decreases-front_in g l = 2 * length l.steps.now
