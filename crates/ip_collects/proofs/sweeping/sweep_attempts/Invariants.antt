use Rattle.std.proofs.Common.{◌≡◌, ◌<◌, ◌≤◌}
use Rattle.std.specs.Prelude.{IsTrue}
use Rattle.ip_ground.specs.Counts.{CountsLeft}
use Rattle.ip_held.specs.Sweeping.{SweepsFiles, IsSweptFrom}
use Rattle.ip_collects.proofs.sweeping.sweep_attempts.Given as goal

abbrev pub invariant-loop-attempt : goal.invariant-loop-attempt
invariant-loop-attempt g l =
    let ground = g.G.Ground in
    record {
      within : l.from ≤ l.attempt;
      none : l.to < l.from → l.attempt ≡ l.from;
      does : IsTrue ground.tells → SweepsFiles (IsSweptFrom l.from l.attempt l.live) l.left (ground.told l.fn.outside) (ground.told l.outside);
      counts : CountsLeft l.left (ground.counts_of l.fn.outside) (ground.counts_of l.outside);
    }
