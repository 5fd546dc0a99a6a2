use Rattle.std.proofs.Common.{ℕ, ◌<◌, ◌≤◌, ◌-◌, ◌≡◌, ◌≢◌, slice_index_or}
use Rattle.std.specs.Prelude.{IfSome, slice_get}
use Rattle.ip_image.specs.Standing.{outside}
use Rattle.ip_spec.specs.declared.record.Parent.{Parent}
use Rattle.ip_audit.proofs.parents.all_named.Given as goal

abbrev pub invariant-loop-parent : goal.invariant-loop-parent
invariant-loop-parent l = (k : ℕ) (d : Parent) → k < l.parent-index → l.floor ≤ (slice_index_or l.parents k d).number → (slice_index_or l.parents k d).number ≢ outside → IfSome (slice_get l.names ((slice_index_or l.parents k d).number - l.floor)) (λ name. name ≡ (slice_index_or l.parents k d).name)
