use Rattle.std.proofs.Common.{ℕ, ◌<◌, ◌≤◌, ◌≢◌, slice_index_or}
use Rattle.ip_spec.specs.declared.record.Parent.{Parent}
use Rattle.ip_audit.proofs.parents.none_has.Given as goal

abbrev pub invariant-loop-j : goal.invariant-loop-j
invariant-loop-j l = (k : ℕ) (d : Parent) → l.from ≤ k → k < l.j → l.number ≢ (slice_index_or l.parents k d).number
