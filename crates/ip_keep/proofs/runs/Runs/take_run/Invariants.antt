use Rattle.std.proofs.Common.{◌≡◌, ◌+◌, ◌^◌, ◌≤◌, length}
use Rattle.ip_image.specs.Collection.{in_front}
use Rattle.ip_keep.specs.Runs.{FitRuns, joined, left_of}
use Rattle.ip_keep.proofs.runs.Runs.take_run.Given as goal

abbrev pub invariant-loop-next : goal.invariant-loop-next
invariant-loop-next l =
    (joined (left_of l.fn.self) ≡ in_front l.run.at l.run.length (joined (left_of l.self))) × (l.run.at + l.run.length ≤ 2 ^ 62) × FitRuns (left_of l.self)

abbrev pub decreases-loop-next : goal.decreases-loop-next
decreases-loop-next l = length l.self.left.now
