use Rattle.std.proofs.Common.{List, map, subst}
use Rattle.std.proofs.lemmas.List.{take_all}
use Rattle.ip_spec.specs.declared.record.InodeChild.{InodeChild}
use Rattle.ip_keep.specs.Entering.{Gains}
use Rattle.ip_keep.proofs.Entered.{gains_none, all_front, cut_front, some_front}
use Rattle.ip_keep.proofs.enter.enter_children.Goals as goal

pub loop-child-init : goal.loop-child-init
loop-child-init c = gains_none c.args.waiting.now.keys c.args.below

pub loop-child-preserved : goal.loop-child-preserved
loop-child-preserved c =
    all_front (λ (e : InodeChild). e.at) c.args.children.now c.loop-child.child-index c.child-item.result c.args.waiting.now.keys c.loop-child.waiting.keys c.enter_one.new.waiting.keys c.args.below c.loop-child-test.true c.child-item.is c.loop-child.invariant c.in_ok-enter_one.ensures.all

pub returns-in_err-enter_one-clause-some : goal.returns-in_err-enter_one-clause-some
returns-in_err-enter_one-clause-some c =
    cut_front (λ (e : InodeChild). e.at) c.args.children.now c.loop-child.child-index c.child-item.result c.args.waiting.now.keys c.loop-child.waiting.keys c.enter_one.new.waiting.keys c.args.below c.loop-child-test.true c.child-item.is c.loop-child.invariant c.enter_one.ensures.some

pub returns-clause-all : goal.returns-clause-all
returns-clause-all c =
    subst (λ (xs : List InodeChild). Gains c.args.waiting.now.keys c.loop-child.waiting.keys (map (λ (e : InodeChild). e.at) xs) c.args.below) (take_all c.loop-child.child-index c.args.children.now c.loop-child-test.false) c.loop-child.invariant

pub returns-clause-some : goal.returns-clause-some
returns-clause-some c = some_front (λ (e : InodeChild). e.at) c.args.children.now c.loop-child.child-index c.args.waiting.now.keys c.loop-child.waiting.keys c.args.below c.loop-child.invariant.some
