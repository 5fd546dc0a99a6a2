use Rattle.std.proofs.Common.{◌≡◌, ◌++◌, length}
use Rattle.ip_keep.specs.Runs.{FitRuns, joined, left_of}
use Rattle.ip_collects.proofs.swapping.runs_of.Given as goal

abbrev pub invariant-loop-run : goal.invariant-loop-run
invariant-loop-run l = record {
  made : l.list.items ++ joined (left_of l.runs) ≡ joined l.check.keep.kept;
  fit : FitRuns (left_of l.runs);
}

abbrev pub decreases-loop-run : goal.decreases-loop-run
decreases-loop-run l = length (joined (left_of l.runs))
