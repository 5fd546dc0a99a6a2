use Rattle.std.proofs.Common.{option_map}
use Rattle.ip_tree.specs.Finding.{as_node}
use Rattle.ip_tree.proofs.CallsOn.{err_causes_on}
use Rattle.ip_tree.proofs.Looking.{looks_on, still_over}
use Rattle.ip_tree.proofs.Walk.{err_is}
use Rattle.ip_three.proofs.SidesFound.{at_below}
use Rattle.ip_three.proofs.plan.plan_place.Goals as goal

pub returns-in_err-plan_contents-clause-planned : goal.returns-in_err-plan_contents-clause-planned
returns-in_err-plan_contents-clause-planned g c tells records b l r over view some base right merged begins less =
    err_is c.from_residual.result c.in_err-plan_contents.field-0.0 c.from_residual.ensures.1 _ _
    (c.in_err-plan_contents.ensures.planned tells records b l r (still_over _ _ _ _ _ records c.at.ensures.looks tells over) base (c.in-Ok.ensures.part tells records l over view some) right merged begins less)

pub returns-in_err-plan_contents-clause-looks : goal.returns-in_err-plan_contents-clause-looks
returns-in_err-plan_contents-clause-looks g c = looks_on _ _ _ _ _ _ _ c.at.ensures.looks c.plan_contents.ensures.looks

pub returns-in_err-plan_contents-clause-causes : goal.returns-in_err-plan_contents-clause-causes
returns-in_err-plan_contents-clause-causes g c =
    err_causes_on _ _ _ _ _ c.at.ensures.looks c.from_residual.result c.in_err-plan_contents.field-0.0 c.from_residual.ensures.1 c.in_err-plan_contents.ensures.causes

pub returns-clause-planned : goal.returns-clause-planned
returns-clause-planned g c tells records b l r over view some base right merged begins less =
    let path = c.args.path.now in
    let here = c.in-Ok.ensures.part tells records l over view some in (
      c.side_of.ensures records b l r path (at_below records b path (option_map as_node c.args.places.now.base) some base) (at_below records l path (option_map as_node c.in-Ok.here) some here)
          (at_below records r path (option_map as_node c.args.places.now.right) some right),
      c.in_ok-plan_contents.ensures.planned tells records b l r (still_over _ _ _ _ _ records c.at.ensures.looks tells over) base here right merged begins less,
    )

pub returns-clause-looks : goal.returns-clause-looks
returns-clause-looks g c = looks_on _ _ _ _ _ _ _ c.at.ensures.looks c.plan_contents.ensures.looks
