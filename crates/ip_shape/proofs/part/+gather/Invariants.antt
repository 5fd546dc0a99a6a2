use Rattle.std.proofs.Common.{◌≡◌, ◌<◌, ◌-◌, List, ℕ}
use Rattle.std.specs.Prelude.{slice_get, Some}
use Rattle.ip_spec.specs.Path.{Step}
use Rattle.ip_spec.specs.Shape.{deepest}
use Rattle.ip_shape.specs.Loaded.{IsRead}
use Rattle.ip_shape.specs.Shape.{AreSteps, IsPart}
use Rattle.ip_shape.specs.declared.part.Part.{Part}
use Rattle.ip_shape.proofs.Gathering.{AreBelow}
use Rattle.ip_shape.proofs.part.+gather.Given as goal

abbrev pub decreases-gather : goal.decreases-gather
decreases-gather g l = deepest - l.depth

abbrev pub invariant-loop-i : goal.invariant-loop-i
invariant-loop-i g l =
    ((steps : List Step) → IsPart (deepest - l.depth) l.depth steps l.part → AreSteps l.fn.into.items → AreSteps l.into.items × AreBelow l.depth l.i steps l.fn.into.items l.into.items)
    × ((k : ℕ) (child : Part g.row.R.Denot) → k < l.i → slice_get l.children.items k ≡ Some child → IsRead child)
