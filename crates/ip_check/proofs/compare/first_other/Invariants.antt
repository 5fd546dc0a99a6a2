use Rattle.std.proofs.Common.{◌≤◌}
use Rattle.ip_image.specs.Collection.{common_length}
use Rattle.ip_check.proofs.compare.first_other.Given as goal

abbrev pub invariant-loop-index : goal.invariant-loop-index
invariant-loop-index l = l.index ≤ common_length l.want l.got
