use Rattle.std.proofs.Common.{◌≡◌, ℕ, List, [], sym, subst}
use Rattle.std.specs.Prelude.{slice_get, Some}
use Rattle.ip_shape.specs.Loaded.{IsFresh}
use Rattle.ip_shape.specs.Shape.{IsLeafOf}
use Rattle.ip_shape.specs.declared.part.Part.{Part, out-Part}
use Rattle.ip_shape.proofs.Ways.{grown_by, longer}
use Rattle.ip_shape.proofs.reading.no_children.Goals as goal

pub loop-preserved : goal.loop-preserved
loop-preserved g c =
    let old = c.loop.parts.items in
    let items = c.in_ok-push.ensures.items in (
      longer old c.push.new.self.items c.no_part.result c.loop.counter items c.loop.invariant.0,
      subst (λ (ps : List (Part g.row.R.Denot)). (i : ℕ) (part : Part g.row.R.Denot) → slice_get ps i ≡ Some part → IsLeafOf [] (out-Part g.row.R.Denot part) × IsFresh part) (sym items)
          (grown_by (λ i part. IsLeafOf [] (out-Part g.row.R.Denot part) × IsFresh part) old c.no_part.result c.loop.invariant.1 (c.no_part.ensures.empty, c.no_part.ensures.fresh)),
    )
