use Rattle.std.proofs.Common.{◌+◌, List, take, subst, sym, arith}
use Rattle.std.proofs.lemmas.List.{take_all}
use Rattle.ip_spec.specs.Path.{Step}
use Rattle.ip_shape.specs.Shape.{AreSteps, AreUnited, add}
use Rattle.ip_shape.proofs.Entries.{AreSteps-add}
use Rattle.ip_shape.proofs.Gathering.{one_more}
use Rattle.ip_shape.proofs.part.add_all.Goals as goal

pub loop-i-preserved : goal.loop-i-preserved
loop-i-preserved c ascend =
    let s = c.index-steps-i.result in
    let steps = c.args.steps.now in
    let all = c.loop-i.into.items in
    let before = c.loop-i.invariant ascend in
    let both : AreSteps (add s all) × AreUnited c.args.into.now.items (take (c.loop-i.i + 1) steps) (add s all) =
    (AreSteps-add s all before.0, one_more c.args.into.now.items steps all c.loop-i.i s c.loop-i-test.true c.index-steps-i.is before.1) in
    subst (λ (new : List Step). AreSteps new × AreUnited c.args.into.now.items (take (c.loop-i.i + 1) steps) new) (sym c.in_ok-add_to.ensures.added) both

pub returns : goal.returns
returns c ascend =
    subst (λ (some : List Step). AreSteps c.loop-i.into.items × AreUnited c.args.into.now.items some c.loop-i.into.items) (take_all c.loop-i.i c.args.steps.now (omega arith)) (c.loop-i.invariant ascend)
