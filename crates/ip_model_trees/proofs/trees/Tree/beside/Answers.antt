use Rattle.std.proofs.Common.{ap, sym, ◌∙◌}
use Rattle.ip_spec.specs.Path.{Path, Bytes}
use Rattle.ip_model_trees.specs.Parts.{beside}
use Rattle.ip_model_trees.proofs.PartLaws.{kept_more}
use Rattle.ip_model_trees.proofs.trees.Tree.beside.Goals as goal

pub loop-part-preserved : goal.loop-part-preserved
loop-part-preserved c =
    let stays = beside c.args.path.now c.args.above in
    kept_more (λ (e : Path × Bytes). stays e.0) c.deref-part-items.result.now c.loop-part.part-index c.part-item.result c.goes-goes.result c.loop-part.parts.items c.push_unless.new.parts.items c.loop-part-test.true c.part-item.is
    (ap stays (sym c.as_slice.ensures) ∙ c.goes-goes.ensures) c.in_ok-push_unless.ensures
    ∙ c.loop-part.invariant
