use Rattle.std.proofs.Common.{◌≡◌, Some, length, sym, ap, subst, ◌∙◌}
use Rattle.std.specs.Option.{option_copied}
use Rattle.ip_spec.specs.Path.{Path}
use Rattle.ip_three.specs.Applying.{as_coming}
use Rattle.ip_three.specs.Clashes.{clash_above, front_of}
use Rattle.ip_tree.proofs.CallsOn.{err_causes_on}
use Rattle.ip_tree.proofs.Looking.{looks_on, still_over}
use Rattle.ip_tree.proofs.Walk.{err_is}
use Rattle.ip_three.proofs.ClashCalls.{clash_here, no_clash}
use Rattle.ip_three.proofs.Values.{no_some}
use Rattle.ip_three.proofs.clash.clash_at.Goals as goal

pub returns-in_err-clashes_here-clause-clash : goal.returns-in_err-clashes_here-clause-clash
returns-in_err-clashes_here-clause-clash g c tells records v r over is taken =
    err_is c.from_residual-in_err-clashes_here.result c.in_err-clashes_here.field-0.0 c.from_residual-in_err-clashes_here.ensures.1 _ _
    (c.in_err-clashes_here.ensures.clash tells records v r (still_over _ _ _ _ _ records c.in_ok-count.ensures.looks tells over) is taken)

pub returns-in_err-clashes_here-clause-looks : goal.returns-in_err-clashes_here-clause-looks
returns-in_err-clashes_here-clause-looks g c = looks_on _ _ _ _ _ _ _ c.in_ok-count.ensures.looks c.in_err-clashes_here.ensures.looks

pub returns-in_err-clashes_here-clause-causes : goal.returns-in_err-clashes_here-clause-causes
returns-in_err-clashes_here-clause-causes g c =
    err_causes_on _ _ _ _ _ c.in_ok-count.ensures.looks c.from_residual-in_err-clashes_here.result c.in_err-clashes_here.field-0.0 c.from_residual-in_err-clashes_here.ensures.1 c.in_err-clashes_here.ensures.causes

pub returns-then-branch-clause-clash : goal.returns-then-branch-clause-clash
returns-then-branch-clause-clash g c tells records v r over is taken =
    let p = c.args.edit.now.path in
    let last = option_copied c.args.last in
    let over' = still_over _ _ _ _ _ records c.in_ok-count.ensures.looks tells over in
    let on_way = subst (λ (q : Path). front_of q c.in_ok-count.field-0 ≡ clash_above v.map last q) c.steps-path.ensures (c.in_ok-count.ensures.clash tells records v over is) in
    ap (λ (q : Path). front_of p (Some (length q))) c.steps-path.ensures
    ∙ clash_here v.map r last p (as_coming c.args.edit.now.coming) (ap (front_of p) (sym (no_some c.in_ok-count.field-0 c.in_default.not-Some)) ∙ on_way)
    (sym c.if-branch.true ∙ c.in_ok-clashes_here.ensures.clash tells records v r over' is taken)

pub returns-then-branch-clause-looks : goal.returns-then-branch-clause-looks
returns-then-branch-clause-looks g c = looks_on _ _ _ _ _ _ _ c.in_ok-count.ensures.looks c.in_ok-clashes_here.ensures.looks

pub returns-clause-clash : goal.returns-clause-clash
returns-clause-clash g c tells records v r over is taken =
    let p = c.args.edit.now.path in
    let last = option_copied c.args.last in
    let over' = still_over _ _ _ _ _ records c.in_ok-count.ensures.looks tells over in
    let on_way = subst (λ (q : Path). front_of q c.in_ok-count.field-0 ≡ clash_above v.map last q) c.steps-path.ensures (c.in_ok-count.ensures.clash tells records v over is) in
    no_clash v.map r last p (as_coming c.args.edit.now.coming) (ap (front_of p) (sym (no_some c.in_ok-count.field-0 c.in_default.not-Some)) ∙ on_way)
    (sym c.if-branch.false ∙ c.in_ok-clashes_here.ensures.clash tells records v r over' is taken)

pub returns-clause-looks : goal.returns-clause-looks
returns-clause-looks g c = looks_on _ _ _ _ _ _ _ c.in_ok-count.ensures.looks c.in_ok-clashes_here.ensures.looks
