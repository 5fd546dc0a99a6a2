use Rattle.std.proofs.Common.{length}
use Rattle.ip_keep.specs.Runs.{joined, left_of}
use Rattle.ip_check.proofs.Going.{Goes}
use Rattle.ip_check.proofs.mapping.Pieces.put_rows.Given as goal

abbrev pub invariant-loop-run : goal.invariant-loop-run
invariant-loop-run g l =
    Goes g.G.Ground.tells (g.G.Ground.told l.fn.outside) (g.G.Ground.told l.outside) (g.G.Ground.counts_of l.fn.outside) (g.G.Ground.counts_of l.outside) l.fn.self l.self (left_of l.fn.runs) (left_of l.left) l.place

abbrev pub decreases-loop-run : goal.decreases-loop-run
decreases-loop-run g l = length (joined (left_of l.left))
