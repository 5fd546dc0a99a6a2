use Rattle.std.proofs.Common.{◌≡◌, ◌-◌, ◌≤◌, length, take}
use Rattle.std.specs.Prelude.{IsTrue}
use Rattle.ip_chunks.proofs.Pieces.{Read}
use Rattle.ip_chunks.proofs.chunks.Chunks.read_at.Given as goal

abbrev pub invariant-loop-done : goal.invariant-loop-done
invariant-loop-done g l =
    let ground = g.G.Ground in
    record {
      within : l.done ≤ length l.fn.out;
      long : length l.out ≡ length l.fn.out;
      does : IsTrue ground.tells → Read l.self.size l.at (take l.done l.out) (ground.told l.fn.outside) (ground.told l.outside);
      counts : ground.counts_of l.outside ≡ ground.counts_of l.fn.outside;
    }

abbrev pub decreases-loop-done : goal.decreases-loop-done
decreases-loop-done g l = length l.fn.out - l.done
