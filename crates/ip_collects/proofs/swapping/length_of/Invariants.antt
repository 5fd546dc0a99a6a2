use Rattle.std.proofs.Common.{◌≡◌, take}
use Rattle.ip_image.specs.Virtual.{total}
use Rattle.ip_collects.proofs.swapping.length_of.Given as goal

abbrev pub invariant-loop-run : goal.invariant-loop-run
invariant-loop-run l = l.length ≡ total (take l.run-index l.runs)
