use Rattle.std.proofs.Common.{◌+◌, ◌*◌, length}
use Rattle.ip_three.proofs.load.+steps.Given as goal

abbrev pub decreases-load_at : goal.decreases-load_at
decreases-load_at g l = 2 * length l.steps.now + 1

abbrev pub decreases-load_in : goal.decreases-load_in
decreases-load_in g l = 2 * length l.steps.now
