use Rattle.std.proofs.Common.{◌≡◌, ◌-◌, ℕ, List, length}
use Rattle.std.specs.Prelude.{slice_get, Some}
use Rattle.ip_spec.specs.Path.{Step}
use Rattle.ip_spec.specs.Shape.{deepest}
use Rattle.ip_shape.specs.Loaded.{IsUnchanged}
use Rattle.ip_shape.specs.Shape.{IsPart}
use Rattle.ip_shape.specs.declared.part.Part.{Part}
use Rattle.ip_shape.proofs.Shapes.{Children}
use Rattle.ip_shape.proofs.part.+copied.Given as goal

abbrev pub decreases-copied : goal.decreases-copied
decreases-copied g l = deepest - l.depth

abbrev pub invariant-loop-i : goal.invariant-loop-i
invariant-loop-i g l =
    (length l.copies.items ≡ l.i)
    × ((j : ℕ) (copy : Part g.row.R.Denot) → slice_get l.copies.items j ≡ Some copy → (child : Part g.row.R.Denot) → slice_get l.children.items j ≡ Some child → IsUnchanged child copy)
    × ((steps : List Step) → IsPart (deepest - l.depth) l.depth steps l.part → Children l.depth steps l.copies.items)
