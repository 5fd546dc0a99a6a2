use Rattle.std.proofs.Common.{◌≡◌, ◌+◌, ◌<◌, ◌≤◌}
use Rattle.std.specs.Prelude.{IsTrue}
use Rattle.ip_ground.specs.Counts.{CountsLeft}
use Rattle.ip_chunks.specs.Effects.{Sweeps}
use Rattle.ip_chunks.proofs.chunks.Chunks.sweep.Given as goal

abbrev pub invariant-loop-number : goal.invariant-loop-number
invariant-loop-number g l =
    let ground = g.G.Ground in
    record {
      few : l.left + l.from ≤ l.number;
      none : l.to < l.from → l.number ≡ l.from;
      does : IsTrue ground.tells → Sweeps l.from l.number l.left (ground.told l.fn.outside) (ground.told l.outside);
      counts : CountsLeft l.left (ground.counts_of l.fn.outside) (ground.counts_of l.outside);
    }
