use Rattle.std.proofs.Common.{◌∙◌, Option, Some, ap, sym, subst}
use Rattle.ip_spec.specs.Path.{Path}
use Rattle.ip_tree.proofs.CallsOn.{err_causes_on}
use Rattle.ip_tree.proofs.Looking.{looks_on, still_over}
use Rattle.ip_tree.proofs.Walk.{err_is}
use Rattle.ip_three.specs.Applying.{as_coming}
use Rattle.ip_three.specs.Clashes.{clash_at, front_of}
use Rattle.ip_three.specs.Walking.{IsTakenAt}
use Rattle.ip_three.specs.declared.apply.Edit.{Edit}
use Rattle.ip_three.proofs.ClashCalls.{found_next, none_left, none_next}
use Rattle.ip_three.proofs.Values.{no_some}
use Rattle.ip_three.proofs.clash.clash.Goals as goal

pub returns-in_err-count-clause-clash : goal.returns-in_err-count-clause-clash
returns-in_err-count-clause-clash g c tells records v r over is taken =
    let e = c.index-come-i.result in
    let there = subst (λ (x : Edit). IsTakenAt records r x.path x.coming) (sym c.index-come-i.is) (taken c.loop-i.i e c.loop-i-test.true) in
    err_is c.from_residual.result c.in_err-count.field-0.0 c.from_residual.ensures.1 _ _
    (c.in_err-count.ensures.clash tells records v r (still_over _ _ _ _ _ records c.loop-i.invariant.looks tells over) is there)

pub returns-in_err-count-clause-looks : goal.returns-in_err-count-clause-looks
returns-in_err-count-clause-looks g c = looks_on _ _ _ _ _ _ _ c.loop-i.invariant.looks c.in_err-count.ensures.looks

pub returns-in_err-count-clause-causes : goal.returns-in_err-count-clause-causes
returns-in_err-count-clause-causes g c =
    err_causes_on _ _ _ _ _ c.loop-i.invariant.looks c.from_residual.result c.in_err-count.field-0.0 c.from_residual.ensures.1 c.in_err-count.ensures.causes

pub returns-in_err-copy_path-clause-looks : goal.returns-in_err-copy_path-clause-looks
returns-in_err-copy_path-clause-looks g c = looks_on _ _ _ _ _ _ _ c.loop-i.invariant.looks c.in_ok-count.ensures.looks

pub returns-in-Some-clause-clash : goal.returns-in-Some-clause-clash
returns-in-Some-clause-clash g c tells records v r over is taken =
    let e = c.index-come-i.result in
    let n = c.in-Some.count in
    let there = subst (λ (x : Edit). IsTakenAt records r x.path x.coming) (sym c.index-come-i.is) (taken c.loop-i.i e c.loop-i-test.true) in
    let at = c.in_ok-count.ensures.clash tells records v r (still_over _ _ _ _ _ records c.loop-i.invariant.looks tells over) is there in
    ap Some c.in_ok-copy_path.ensures ∙ ap (λ (q : Path). front_of q (Some n)) c.steps.ensures
    ∙ found_next v.map r c.args.come.now c.loop-i.i c.loop-i.last e c.loop-i-test.true c.index-come-i.is n
    (ap (front_of e.path) (sym c.in-Some.is) ∙ at ∙ ap (λ (a : Option Path). clash_at v.map r a e.path (as_coming e.coming)) c.path_at.ensures)
    ∙ c.loop-i.invariant.rest tells records v r over is taken

pub returns-in-Some-clause-looks : goal.returns-in-Some-clause-looks
returns-in-Some-clause-looks g c = looks_on _ _ _ _ _ _ _ c.loop-i.invariant.looks c.in_ok-count.ensures.looks

pub loop-i-preserved : goal.loop-i-preserved
loop-i-preserved g c = record {
  rest = λ tells records v r over is taken.
      let e = c.index-come-i.result in
      let there = subst (λ (x : Edit). IsTakenAt records r x.path x.coming) (sym c.index-come-i.is) (taken c.loop-i.i e c.loop-i-test.true) in
      let at = c.in_ok-count.ensures.clash tells records v r (still_over _ _ _ _ _ records c.loop-i.invariant.looks tells over) is there in
      none_next v.map r c.args.come.now c.loop-i.i c.loop-i.last e c.loop-i-test.true c.index-come-i.is c.next_last-last.result
      (ap (front_of e.path) (sym (no_some c.in_ok-count.field-0 c.in_default.not-Some)) ∙ at ∙ ap (λ (a : Option Path). clash_at v.map r a e.path (as_coming e.coming)) c.path_at.ensures)
      (c.next_last-last.ensures records r e.path there)
      ∙ c.loop-i.invariant.rest tells records v r over is taken;
  looks = looks_on _ _ _ _ _ _ _ c.loop-i.invariant.looks c.in_ok-count.ensures.looks;
  counts = c.in_ok-count.ensures.counts ∙ c.loop-i.invariant.counts;
}

pub returns-clause-clash : goal.returns-clause-clash
returns-clause-clash g c tells records v r over is taken =
    none_left v.map r c.args.come.now c.loop-i.i c.loop-i.last c.loop-i-test.false ∙ c.loop-i.invariant.rest tells records v r over is taken
