use Rattle.std.proofs.Common.{◌++◌, [], ◌∷◌, ap, cond, ◌∙◌}
use Rattle.std.specs.Prelude.{◌==◌}
use Rattle.ip_model_trees.proofs.Parting.{there_more}
use Rattle.ip_model_trees.proofs.places.entries_at.Goals as goal

pub loop-placed-preserved : goal.loop-placed-preserved
loop-placed-preserved c =
    let p = c.placed-item.result in
    let old = c.loop-placed.there.items in
    there_more c.args.depth c.args.index c.args.entries.now c.loop-placed.placed-index p old c.push_if.new.list.items c.loop-placed-test.true c.placed-item.is c.loop-placed.invariant
    (c.in_ok-push_if.ensures ∙ ap (λ n. old ++ cond (n == c.args.index) (p ∷ []) []) c.five_bits.ensures)
