use Rattle.std.proofs.Common.{◌≡◌, ◌+◌, ◌≤◌, drop}
use Rattle.ip_audit.specs.View.{counts_of}
use Rattle.ip_audit.proofs.measures.counted.Given as goal

abbrev pub invariant-loop-child : goal.invariant-loop-child
invariant-loop-child l = record { sum : l.total + counts_of (drop l.child-index l.children) ≡ counts_of l.children; small : l.total ≤ 1048576 }
