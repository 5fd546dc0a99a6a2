use Rattle.std.proofs.Common.{ℕ, ◌<◌, slice_index_or}
use Rattle.ip_image.specs.Standing.{IsEarlier}
use Rattle.ip_spec.specs.declared.record.Parent.{Parent}
use Rattle.ip_audit.proofs.parents.all_earlier.Given as goal

abbrev pub invariant-loop-parent : goal.invariant-loop-parent
invariant-loop-parent l = (k : ℕ) (d : Parent) → k < l.parent-index → IsEarlier l.terms l.number (slice_index_or l.parents k d)
