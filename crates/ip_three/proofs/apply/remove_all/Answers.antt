use Rattle.std.proofs.Common.{◌≡◌, ◌<◌, ◌∙◌, length, get_or, take, sym, subst, arith}
use Rattle.ip_spec.specs.Path.{Path}
use Rattle.ip_spec.specs.View.{View}
use Rattle.ip_tree.specs.TreeView.{IsView}
use Rattle.ip_tree.proofs.CallsOn.{err_causes_on}
use Rattle.ip_tree.proofs.Looking.{looks_on, still_over}
use Rattle.ip_tree.proofs.Walk.{err_is}
use Rattle.ip_three.specs.Merging.{less, less_at}
use Rattle.ip_three.proofs.Making.{less_more}
use Rattle.ip_three.proofs.apply.remove_all.Goals as goal

pub returns-in_err-remove-clause-removes : goal.returns-in_err-remove-clause-removes
returns-in_err-remove-clause-removes g c tells records v over is =
    let over' = still_over _ _ _ _ _ records c.loop-path.invariant.looks tells over in
    err_is c.from_residual.result c.in_err-remove.field-0.0 c.from_residual.ensures.1 _ _
    (c.in_err-remove.ensures.removes tells records (less v (take c.loop-path.path-index c.args.gone.now)) over' (c.loop-path.invariant.made tells records v over is))

pub returns-in_err-remove-clause-looks : goal.returns-in_err-remove-clause-looks
returns-in_err-remove-clause-looks g c = looks_on _ _ _ _ _ _ _ c.loop-path.invariant.looks c.in_err-remove.ensures.looks

pub returns-in_err-remove-clause-causes : goal.returns-in_err-remove-clause-causes
returns-in_err-remove-clause-causes g c =
    err_causes_on _ _ _ _ _ c.loop-path.invariant.looks c.from_residual.result c.in_err-remove.field-0.0 c.from_residual.ensures.1 c.in_err-remove.ensures.causes

pub loop-path-preserved : goal.loop-path-preserved
loop-path-preserved g c = record {
  made = λ tells records v over is.
      let gone = c.args.gone.now in
      let i = c.loop-path.path-index in
      let within : i < length gone = omega (arith, c.loop-path-test.true) in
      let at : c.steps.result.now ≡ get_or gone i c.path-item.result = c.steps.ensures ∙ c.path-item.is in
      let before = c.loop-path.invariant.made tells records v over is in
      let over' = still_over _ _ _ _ _ records c.loop-path.invariant.looks tells over in
      let removed = c.in_ok-remove.ensures.removes tells records (less v (take i gone)) over' before in
      subst (λ (w : View). IsView records c.remove.new.tree w) (sym (less_more v gone i c.path-item.result within))
      (subst (λ (p : Path). IsView records c.remove.new.tree (less_at (less v (take i gone)) p)) at removed);
  looks = looks_on _ _ _ _ _ _ _ c.loop-path.invariant.looks c.in_ok-remove.ensures.looks;
  counts = c.in_ok-remove.ensures.counts ∙ c.loop-path.invariant.counts;
}
