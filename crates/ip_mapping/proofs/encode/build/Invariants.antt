use Rattle.std.proofs.Common.{drop}
use Rattle.ip_mapping.proofs.Writing.{Written}
use Rattle.ip_mapping.proofs.encode.build.Given as goal

abbrev pub invariant-loop-run : goal.invariant-loop-run
invariant-loop-run l = Written l.horizon l.end l.place l.out.items l.runs (drop l.run-index l.runs)
