use Rattle.std.proofs.Common.{◌≡◌, ◌+◌, ◌≤◌}
use Rattle.std.specs.Prelude.{IsTrue}
use Rattle.ip_space.specs.SpaceView.{IsReadable}
use Rattle.ip_space.specs.Scanning.{IsCurrent}
use Rattle.ip_keep.specs.Going.{Goes, IsAlong}
use Rattle.ip_keep.specs.Keeping.{looked_in}
use Rattle.ip_keep.proofs.keep.Keep.go_up.Given as goal

abbrev pub invariant-loop-left : goal.invariant-loop-left
invariant-loop-left g l =
    let ground = g.G.Ground in
    record {
      goes : Goes ground.tells (ground.told l.fn.outside) (ground.told l.outside) l.fn.self l.self;
      along : IsAlong l.self l.scan;
      current : IsTrue ground.tells → IsReadable (ground.told l.outside) l.self.space → IsCurrent (ground.told l.outside) l.self.space l.scan;
      looks : looked_in l.self + l.left ≡ looked_in l.fn.self + l.fn.most;
      most : l.left ≤ l.fn.most;
      end : l.end ≡ l.self.space.layout.end;
      counts : ground.counts_of l.outside ≡ ground.counts_of l.fn.outside;
    }

abbrev pub decreases-loop-left : goal.decreases-loop-left
decreases-loop-left g l = l.left
