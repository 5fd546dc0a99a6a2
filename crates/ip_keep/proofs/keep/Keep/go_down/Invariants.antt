use Rattle.std.proofs.Common.{◌≡◌, ◌+◌, ◌≤◌, ◌<◌}
use Rattle.ip_keep.specs.Going.{Goes}
use Rattle.ip_keep.specs.Keeping.{looked_in}
use Rattle.ip_keep.proofs.keep.Keep.go_down.Given as goal

abbrev pub invariant-loop-left : goal.invariant-loop-left
invariant-loop-left g l =
    let ground = g.G.Ground in
    record {
      goes : Goes ground.tells (ground.told l.fn.outside) (ground.told l.outside) l.fn.self l.self;
      looks : looked_in l.self + l.left ≡ looked_in l.fn.self + l.fn.most;
      most : l.left ≤ l.fn.most;
      up : 0 < l.fn.most → l.self.next ≡ l.self.space.layout.end;
      counts : ground.counts_of l.outside ≡ ground.counts_of l.fn.outside;
    }

abbrev pub decreases-loop-left : goal.decreases-loop-left
decreases-loop-left g l = l.left
