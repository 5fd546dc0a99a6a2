use Rattle.std.proofs.Common.{◌≡◌, ◌<◌, ◌≤◌, ◌-◌, ℕ, List}
use Rattle.std.specs.Prelude.{slice_get, Some}
use Rattle.ip_spec.specs.Path.{Step}
use Rattle.ip_spec.specs.Shape.{deepest}
use Rattle.ip_shape.specs.Loaded.{IsRead}
use Rattle.ip_shape.specs.Shape.{IsPart}
use Rattle.ip_shape.specs.declared.part.Part.{Part}
use Rattle.ip_shape.proofs.reading.+first_below.Given as goal

abbrev pub decreases-first_below : goal.decreases-first_below
decreases-first_below g l = deepest - l.depth

abbrev pub invariant-loop-index : goal.invariant-loop-index
invariant-loop-index g l =
    (steps : List Step) → l.depth ≤ deepest → IsPart (deepest - l.depth) l.depth steps l.part → (k : ℕ) (child : Part g.row.R.Denot) → k < l.index → slice_get l.children.items k ≡ Some child → IsRead child
