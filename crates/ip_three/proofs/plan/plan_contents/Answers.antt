use Rattle.std.proofs.Common.{subst}
use Rattle.ip_tree.proofs.Walk.{err_is}
use Rattle.ip_three.specs.Walking.{IsDecided}
use Rattle.ip_three.proofs.PlanWalks.{walked_answered, walked_stays, walked_taken}
use Rattle.ip_three.proofs.plan.plan_contents.Goals as goal

pub returns-in_err-decide-clause-planned : goal.returns-in_err-decide-clause-planned
returns-in_err-decide-clause-planned g c tells records b l r over base left right merged begins less =
    err_is c.from_residual.result c.in_err-decide.field-0.0 c.from_residual.ensures.1 _ _ (c.in_err-decide.ensures.decided tells records b l r over base left right)

pub returns-in-Stays-clause-planned : goal.returns-in-Stays-clause-planned
returns-in-Stays-clause-planned g c tells records b l r over base left right merged begins less =
    let rule = g.D.Decides.rule c.args.rules.now in
    let path = c.args.path.now in
    walked_stays rule records b l r path c.args.plan.now begins (subst (IsDecided rule b l r path) c.in-Stays.is (c.in_ok-decide.ensures.decided tells records b l r over base left right))

pub returns-in_ok-contents_taken-in-Taken-clause-planned : goal.returns-in_ok-contents_taken-in-Taken-clause-planned
returns-in_ok-contents_taken-in-Taken-clause-planned g c tells records b l r over base left right merged begins less =
    let rule = g.D.Decides.rule c.args.rules.now in
    let path = c.args.path.now in
    let side = subst (IsDecided rule b l r path) c.in-Taken.is (c.in_ok-decide.ensures.decided tells records b l r over base left right) in
    walked_taken rule records b l r path c.args.plan.now begins merged less c.contents_taken.new.plan side (c.in_ok-contents_taken-in-Taken.ensures records l r left right)

pub returns-in_ok-answered-in-Answered-clause-planned : goal.returns-in_ok-answered-in-Answered-clause-planned
returns-in_ok-answered-in-Answered-clause-planned g c tells records b l r over base left right merged begins less =
    let rule = g.D.Decides.rule c.args.rules.now in
    let path = c.args.path.now in
    let said = subst (IsDecided rule b l r path) c.in-Answered.is (c.in_ok-decide.ensures.decided tells records b l r over base left right) in
    walked_answered rule records b l r path c.args.plan.now begins merged less c.answered.new.plan c.in-Answered.merged said.0 said.1 (c.in_ok-answered-in-Answered.ensures records l left)
