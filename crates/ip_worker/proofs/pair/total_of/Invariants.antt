use Rattle.std.proofs.Common.{◌≡◌, take}
use Rattle.ip_image.specs.Virtual.{total}
use Rattle.ip_worker.proofs.pair.total_of.Given as goal

abbrev pub invariant-loop-run : goal.invariant-loop-run
invariant-loop-run l = l.sum ≡ total (take l.run-index l.runs)
