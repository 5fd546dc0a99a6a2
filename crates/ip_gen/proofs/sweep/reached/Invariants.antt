use Rattle.ip_gen.proofs.Sweeping.{IsSwept}
use Rattle.ip_gen.proofs.sweep.reached.Given as goal

abbrev pub invariant-loop-i : goal.invariant-loop-i
invariant-loop-i l = IsSwept l.records l.commit l.i l.kept
