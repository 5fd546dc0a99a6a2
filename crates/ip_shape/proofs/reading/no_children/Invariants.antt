use Rattle.std.proofs.Common.{◌≡◌, ℕ, length, []}
use Rattle.std.specs.Prelude.{slice_get, Some}
use Rattle.ip_shape.specs.Loaded.{IsFresh}
use Rattle.ip_shape.specs.Shape.{IsLeafOf}
use Rattle.ip_shape.specs.declared.part.Part.{Part, out-Part}
use Rattle.ip_shape.proofs.reading.no_children.Given as goal

abbrev pub invariant-loop : goal.invariant-loop
invariant-loop g l = (length l.parts.items ≡ l.counter) × ((i : ℕ) (part : Part g.row.R.Denot) → slice_get l.parts.items i ≡ Some part → IsLeafOf [] (out-Part g.row.R.Denot part) × IsFresh part)
