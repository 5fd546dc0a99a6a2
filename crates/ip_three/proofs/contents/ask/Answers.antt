use Rattle.ip_tree.proofs.CallsOn.{err_causes_on}
use Rattle.ip_tree.proofs.Looking.{looks_on, still_over}
use Rattle.ip_tree.proofs.Walk.{err_is}
use Rattle.ip_three.proofs.ContentsFound.{same_decided}
use Rattle.ip_three.proofs.contents.ask.Goals as goal

pub returns-in_err-old-clause-decided : goal.returns-in_err-old-clause-decided
returns-in_err-old-clause-decided g c tells records o l r over base left right =
    err_is c.from_residual.result c.in_err-old.field-0.0 c.from_residual.ensures.1 _ _ (c.in_err-old.ensures.bytes tells records o over base)

pub returns-in_err-one-clause-decided : goal.returns-in_err-one-clause-decided
returns-in_err-one-clause-decided g c tells records o l r over base left right =
    err_is c.from_residual-in_err-one.result c.in_err-one.field-0.0 c.from_residual-in_err-one.ensures.1 _ _
    (c.in_err-one.ensures.bytes tells records l (still_over _ _ _ _ _ records c.in_ok-old.ensures.looks tells over) left)

pub returns-in_err-one-clause-looks : goal.returns-in_err-one-clause-looks
returns-in_err-one-clause-looks g c = looks_on _ _ _ _ _ _ _ c.in_ok-old.ensures.looks c.in_err-one.ensures.looks

pub returns-in_err-one-clause-causes : goal.returns-in_err-one-clause-causes
returns-in_err-one-clause-causes g c =
    err_causes_on _ _ _ _ _ c.in_ok-old.ensures.looks c.from_residual-in_err-one.result c.in_err-one.field-0.0 c.from_residual-in_err-one.ensures.1 c.in_err-one.ensures.causes

pub returns-in_err-other-clause-decided : goal.returns-in_err-other-clause-decided
returns-in_err-other-clause-decided g c tells records o l r over base left right =
    let looks = looks_on _ _ _ _ _ _ _ c.in_ok-old.ensures.looks c.in_ok-one.ensures.looks in
    err_is c.from_residual-in_err-other.result c.in_err-other.field-0.0 c.from_residual-in_err-other.ensures.1 _ _
    (c.in_err-other.ensures.bytes tells records r (still_over _ _ _ _ _ records looks tells over) right)

pub returns-in_err-other-clause-looks : goal.returns-in_err-other-clause-looks
returns-in_err-other-clause-looks g c = looks_on _ _ _ _ _ _ _ (looks_on _ _ _ _ _ _ _ c.in_ok-old.ensures.looks c.in_ok-one.ensures.looks) c.in_err-other.ensures.looks

pub returns-in_err-other-clause-causes : goal.returns-in_err-other-clause-causes
returns-in_err-other-clause-causes g c =
    let looks = looks_on _ _ _ _ _ _ _ c.in_ok-old.ensures.looks c.in_ok-one.ensures.looks in
    err_causes_on _ _ _ _ _ looks c.from_residual-in_err-other.result c.in_err-other.field-0.0 c.from_residual-in_err-other.ensures.1 c.in_err-other.ensures.causes

pub returns-in_err-answer-clause-looks : goal.returns-in_err-answer-clause-looks
returns-in_err-answer-clause-looks g c = looks_on _ _ _ _ _ _ _ (looks_on _ _ _ _ _ _ _ c.in_ok-old.ensures.looks c.in_ok-one.ensures.looks) c.in_ok-other.ensures.looks

pub returns-clause-decided : goal.returns-clause-decided
returns-clause-decided g c tells records o l r over base left right =
    let over_one = still_over _ _ _ _ _ records c.in_ok-old.ensures.looks tells over in
    let over_other = still_over _ _ _ _ _ records c.in_ok-one.ensures.looks tells over_one in
    same_decided (g.D.Decides.rule c.args.rules.now) o l r c.in_ok-old.old c.in_ok-one.one c.in_ok-other.other c.args.path.now c.in_ok-answer.field-0
    (c.in_ok-old.ensures.bytes tells records o over base) (c.in_ok-one.ensures.bytes tells records l over_one left) (c.in_ok-other.ensures.bytes tells records r over_other right) c.in_ok-answer.ensures

pub returns-clause-looks : goal.returns-clause-looks
returns-clause-looks g c = looks_on _ _ _ _ _ _ _ (looks_on _ _ _ _ _ _ _ c.in_ok-old.ensures.looks c.in_ok-one.ensures.looks) c.in_ok-other.ensures.looks
