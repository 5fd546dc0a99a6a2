use Rattle.std.proofs.Common.{◌≡◌, ◌+◌, length}
use Rattle.ip_keep.specs.Runs.{FitRuns, joined, left_of}
use Rattle.ip_check.proofs.mapping.count_runs.Given as goal

abbrev pub invariant-loop-count : goal.invariant-loop-count
invariant-loop-count l = FitRuns (left_of l.left) × (l.count + length (joined (left_of l.left)) ≡ length (joined (left_of l.fn.runs)))

abbrev pub decreases-loop-count : goal.decreases-loop-count
decreases-loop-count l = length (joined (left_of l.left))
