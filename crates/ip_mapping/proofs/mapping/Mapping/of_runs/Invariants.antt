use Rattle.std.proofs.Common.{drop}
use Rattle.ip_mapping.proofs.Placing.{Placed}
use Rattle.ip_mapping.proofs.mapping.Mapping.of_runs.Given as goal

abbrev pub invariant-loop-run : goal.invariant-loop-run
invariant-loop-run l = Placed l.horizon l.place l.rows.items l.runs (drop l.run-index l.runs)
