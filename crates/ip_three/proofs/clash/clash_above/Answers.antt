use Rattle.std.proofs.Common.{◌≡◌, ℕ, sym, ◌∙◌, arith, false, take, below_more}
use Rattle.std.specs.Option.{option_copied}
use Rattle.ip_three.specs.Clashes.{is_met}
use Rattle.ip_tree.proofs.CallsOn.{err_causes_on}
use Rattle.ip_tree.proofs.Looking.{looks_on, still_over}
use Rattle.ip_three.proofs.ClashCalls.{found_front, none_front}
use Rattle.ip_three.proofs.clash.clash_above.Goals as goal

pub returns-in_err-has_contents-clause-looks : goal.returns-in_err-has_contents-clause-looks
returns-in_err-has_contents-clause-looks g c = looks_on _ _ _ _ _ _ _ c.loop-count.invariant.looks c.in_err-has_contents.ensures.looks

pub returns-in_err-has_contents-clause-causes : goal.returns-in_err-has_contents-clause-causes
returns-in_err-has_contents-clause-causes g c =
    err_causes_on _ _ _ _ _ c.loop-count.invariant.looks c.from_residual.result c.in_err-has_contents.field-0.0 c.from_residual.ensures.1 c.in_err-has_contents.ensures.causes

pub returns-then-branch-clause-clash : goal.returns-then-branch-clause-clash
returns-then-branch-clause-clash g c tells records v over is =
    let over' = still_over _ _ _ _ _ records c.loop-count.invariant.looks tells over in
    found_front v.map (option_copied c.args.last) c.args.path.now c.loop-count.count c.loop-count-test.true (c.loop-count.invariant.none tells records v over is)
    (sym (c.in_ok-has_contents.ensures.contents tells records v over' is) ∙ c.if-branch.true)

pub returns-then-branch-clause-looks : goal.returns-then-branch-clause-looks
returns-then-branch-clause-looks g c = looks_on _ _ _ _ _ _ _ c.loop-count.invariant.looks c.in_ok-has_contents.ensures.looks

pub loop-count-preserved : goal.loop-count-preserved
loop-count-preserved g c = record {
  none = λ tells records v over is.
      let over' = still_over _ _ _ _ _ records c.loop-count.invariant.looks tells over in
      below_more (λ (i : ℕ). is_met v.map (option_copied c.args.last) (take i c.args.path.now) ≡ false) c.loop-count.count (c.loop-count.invariant.none tells records v over is)
      (sym (c.in_ok-has_contents.ensures.contents tells records v over' is) ∙ c.if-branch.false);
  looks = looks_on _ _ _ _ _ _ _ c.loop-count.invariant.looks c.in_ok-has_contents.ensures.looks;
  counts = c.in_ok-has_contents.ensures.counts ∙ c.loop-count.invariant.counts;
}

pub returns-clause-clash : goal.returns-clause-clash
returns-clause-clash g c tells records v over is =
    none_front v.map (option_copied c.args.last) c.args.path.now (λ i within. c.loop-count.invariant.none tells records v over is i (let test = c.loop-count-test.false in omega (arith, test, within)))
