use Rattle.ip_history.proofs.Flagged.{Passed}
use Rattle.ip_history.proofs.table.Table.add_parents.Given as goal

abbrev pub invariant-loop-parent : goal.invariant-loop-parent
invariant-loop-parent l = Passed l.self.floor l.parents l.parent-index l.flags l.fn.frontier l.frontier
