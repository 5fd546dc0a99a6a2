use Rattle.std.proofs.Common.{ℕ, ◌<◌, ◌≡◌, ◌≢◌, ◌⊎◌, slice_index_or, length}
use Rattle.ip_image.specs.Standing.{outside}
use Rattle.ip_spec.specs.declared.record.Parent.{Parent}
use Rattle.ip_audit.proofs.parents.all_distinct.Given as goal

abbrev pub invariant-loop-at : goal.invariant-loop-at
invariant-loop-at l = (h j : ℕ) (d : Parent) → h < l.at → h < j → j < length l.parents → ((slice_index_or l.parents h d).number ≢ (slice_index_or l.parents j d).number) ⊎ ((slice_index_or l.parents h d).number ≡ outside)
