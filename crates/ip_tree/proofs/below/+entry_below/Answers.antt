use Rattle.std.proofs.Common.{subst, suc, ◌≡◌, ◌+◌, ◌-◌, ◌∙◌, arith}
use Rattle.ip_spec.specs.Shape.{at_place, deepest, place}
use Rattle.ip_tree.specs.Leading.{HasDepth, LeadsThrough, LeadsTo}
use Rattle.ip_tree.specs.Reads.{FindsEntry, IsFree}
use Rattle.ip_tree.proofs.Leading.{leads_on}
use Rattle.ip_tree.proofs.Looking.{causes_on, looks_on, still_over}
use Rattle.ip_tree.proofs.PartLookups.{same_finds, step_down}
use Rattle.ip_tree.proofs.Walk.{match_ok}
use Rattle.ip_tree.proofs.below.+entry_below.Goals as goal

pub returns-in-Found-clause-entry : goal.returns-in-Found-clause-entry
returns-in-Found-clause-entry g t c tells records depth es over sum is = subst (LeadsTo records depth es c.args.step.now) c.in-Found.is (c.in-Ok.ensures.next tells records depth es over sum is)

pub returns-in-Found-clause-any : goal.returns-in-Found-clause-any
returns-in-Found-clause-any g t c tells readable = subst (LeadsThrough _ c.args.levels c.args.reference.now.at c.args.step.now) c.in-Found.is (c.in-Ok.ensures.any tells readable)

pub returns-in-Child-clause-entry : goal.returns-in-Child-clause-entry
returns-in-Child-clause-entry g t c tells records depth es over sum is =
    let s = c.args.step.now in
    let below = at_place depth (place s depth) es in
    let some = subst (HasDepth c.args.levels) c.in-Child.is c.in-Ok.ensures.low in
    let asked = subst (LeadsTo records depth es s) c.in-Child.is (c.in-Ok.ensures.next tells records depth es over sum is) in
    let over' = still_over _ _ _ _ _ records c.in-Ok.ensures.looks tells over in
    let next : suc depth + (c.args.levels - 1) ≡ deepest = omega (arith, sum, some) in
    match_ok c.entry_below.result (FindsEntry records below s) (FindsEntry records es s) IsFree (λ found finds. same_finds records below es s found (step_down records depth es s) finds)
    (c.entry_below.ensures.entry tells records (suc depth) below over' next asked)

pub returns-in-Child-clause-any : goal.returns-in-Child-clause-any
returns-in-Child-clause-any g t c tells readable =
    let s = c.args.step.now in
    let reads = c.in-Ok.ensures.looks.reads tells in
    let leads = subst (LeadsThrough _ c.args.levels c.args.reference.now.at s) c.in-Child.is (c.in-Ok.ensures.any tells readable) in
    match_ok c.entry_below.result _ _ _ (λ found is. leads_on _ c.args.reference.now.at s _ (reads.records readable) c.args.levels c.in-Child.child.at found leads is) (c.entry_below.ensures.any tells (reads.readable readable))

pub returns-in-Child-clause-looks : goal.returns-in-Child-clause-looks
returns-in-Child-clause-looks g t c = looks_on _ _ _ _ _ _ _ c.in-Ok.ensures.looks c.entry_below.ensures.looks

pub returns-in-Child-clause-causes : goal.returns-in-Child-clause-causes
returns-in-Child-clause-causes g t c = causes_on _ _ _ _ _ c.in-Ok.ensures.looks c.entry_below.result c.entry_below.ensures.causes
