use Rattle.std.proofs.Common.{◌≡◌, ◌-◌, ℕ, length}
use Rattle.std.specs.Prelude.{slice_get, Some}
use Rattle.ip_spec.specs.Shape.{deepest}
use Rattle.ip_shape.specs.Loaded.{IsFresh}
use Rattle.ip_shape.specs.declared.part.Part.{Part}
use Rattle.ip_shape.proofs.Shapes.{Children}
use Rattle.ip_shape.proofs.part.+part_of.Given as goal

abbrev pub decreases-part_of : goal.decreases-part_of
decreases-part_of g l = deepest - l.depth

abbrev pub invariant-loop-index : goal.invariant-loop-index
invariant-loop-index g l =
    (length l.children.items ≡ l.index) × Children l.depth l.steps l.children.items
    × ((i : ℕ) (child : Part g.row.R.Denot) → slice_get l.children.items i ≡ Some child → IsFresh child)
