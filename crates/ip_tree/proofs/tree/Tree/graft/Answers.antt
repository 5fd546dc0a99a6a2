use Rattle.std.proofs.Common.{◌<◌, ◌≤◌, ◌+◌, length, arith}
use Rattle.ip_spec.specs.Step.{steps_limit}
use Rattle.ip_spec.specs.Tree.{subtree}
use Rattle.ip_tree.specs.Finding.{IsPartOf, as_node}
use Rattle.ip_tree.specs.Heights.{node_height}
use Rattle.ip_tree.specs.Shown.{shown}
use Rattle.ip_tree.proofs.Heights.{node_steps}
use Rattle.ip_tree.proofs.Grafting.{copied_source, grafted, none_placed, too_deep, under_height}
use Rattle.ip_tree.proofs.Looking.{looks_on, still_over}
use Rattle.ip_tree.proofs.tree.Tree.graft.Goals as goal
use Rattle.ip_tree.proofs.CallsOn.{err_causes_on}

pub returns-then-to-place_height-gt-STEPS_MAX-clause-grafts : goal.returns-then-to-place_height-gt-STEPS_MAX-clause-grafts
returns-then-to-place_height-gt-STEPS_MAX-clause-grafts g c tells records v w over v_is w_is =
    let n = as_node c.in-Ok-Some.place in
    let part : IsPartOf records w c.args.from.now n = rw c.in-Ok-Some.field-0-is at (c.in-Ok-Some.ensures.part tells records w over w_is) in
    let low = under_height w.map c.args.from.now w_is.lawful in
    let same = node_steps records n (subtree w.map c.args.from.now) part.means (omega arith) in
    let deep : steps_limit < length c.args.to.now + node_height n = omega (arith, c.if-to-place_height-gt-STEPS_MAX.true, c.place_height.ensures) in
    too_deep records v w c.args.from.now c.args.to.now n part c.args.self.now v_is same deep

pub returns-in_err-place-clause-grafts : goal.returns-in_err-place-clause-grafts
returns-in_err-place-clause-grafts g c tells records v w over v_is w_is =
    let n = as_node c.in-Ok-Some.place in
    let part : IsPartOf records w c.args.from.now n = rw c.in-Ok-Some.field-0-is at (c.in-Ok-Some.ensures.part tells records w over w_is) in
    let low = under_height w.map c.args.from.now w_is.lawful in
    let same = node_steps records n (subtree w.map c.args.from.now) part.means (omega arith) in
    let fits : length c.args.to.now + node_height n ≤ steps_limit = omega (arith, c.if-to-place_height-gt-STEPS_MAX.false, c.place_height.ensures) in
    let later = still_over g.G.Ground.tells (g.G.Ground.told c.args.outside.now) (g.G.Ground.told c.some_at.new.outside) c.args.space.now c.some_at.new.space records c.in-Ok-Some.ensures.looks tells over in
    let copy = copied_source records v w c.args.from.now c.args.to.now n part (shown c.in_ok-part.part) (c.in_ok-part.ensures records (subtree w.map c.args.from.now) part.means) in
    let alike = node_steps records (shown c.in_ok-part.part) (subtree w.map c.args.from.now) copy.means (omega arith) in
    none_placed records v w c.args.from.now c.args.to.now (shown c.in_ok-part.part) copy c.args.self.now v_is alike (omega arith) c.place.new.self c.from_residual-in_err-place.result c.in_err-place.field-0.0
    c.from_residual-in_err-place.ensures.1 (c.in_err-place.ensures.place tells records v (subtree w.map c.args.from.now) later v_is copy.means)

pub returns-in_err-place-clause-looks : goal.returns-in_err-place-clause-looks
returns-in_err-place-clause-looks g c = looks_on _ _ _ _ _ _ _ c.in-Ok-Some.ensures.looks c.in_err-place.ensures.looks

pub returns-in_err-place-clause-causes : goal.returns-in_err-place-clause-causes
returns-in_err-place-clause-causes g c =
    err_causes_on _ _ _ _ _ c.in-Ok-Some.ensures.looks c.from_residual-in_err-place.result c.in_err-place.field-0.0 c.from_residual-in_err-place.ensures.1 c.in_err-place.ensures.causes

pub returns-clause-grafts : goal.returns-clause-grafts
returns-clause-grafts g c tells records v w over v_is w_is =
    let n = as_node c.in-Ok-Some.place in
    let part : IsPartOf records w c.args.from.now n = rw c.in-Ok-Some.field-0-is at (c.in-Ok-Some.ensures.part tells records w over w_is) in
    let low = under_height w.map c.args.from.now w_is.lawful in
    let same = node_steps records n (subtree w.map c.args.from.now) part.means (omega arith) in
    let fits : length c.args.to.now + node_height n ≤ steps_limit = omega (arith, c.if-to-place_height-gt-STEPS_MAX.false, c.place_height.ensures) in
    let later = still_over g.G.Ground.tells (g.G.Ground.told c.args.outside.now) (g.G.Ground.told c.some_at.new.outside) c.args.space.now c.some_at.new.space records c.in-Ok-Some.ensures.looks tells over in
    let copy = copied_source records v w c.args.from.now c.args.to.now n part (shown c.in_ok-part.part) (c.in_ok-part.ensures records (subtree w.map c.args.from.now) part.means) in
    let alike = node_steps records (shown c.in_ok-part.part) (subtree w.map c.args.from.now) copy.means (omega arith) in
    grafted records v w c.args.from.now c.args.to.now (shown c.in_ok-part.part) copy c.args.self.now v_is alike (omega arith) c.args.source.now c.place.new.self w_is c.requires
    (c.in_ok-place.ensures.place tells records v (subtree w.map c.args.from.now) later v_is copy.means) c.least-self.result c.least-self.ensures

pub returns-clause-looks : goal.returns-clause-looks
returns-clause-looks g c = looks_on _ _ _ _ _ _ _ c.in-Ok-Some.ensures.looks c.in_ok-place.ensures.looks
