use Rattle.std.proofs.Common.{◌+◌, ◌*◌, length}
use Rattle.ip_tree.proofs.place.+place.Given as goal

abbrev pub decreases-place_at : goal.decreases-place_at
decreases-place_at g l = 2 * length l.steps.now + 1

abbrev pub decreases-place_in : goal.decreases-place_in
decreases-place_in g l = 2 * length l.steps.now
