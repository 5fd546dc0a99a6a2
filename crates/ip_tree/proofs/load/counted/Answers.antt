use Rattle.std.proofs.Common.{arith}
use Rattle.std.specs.Prelude.{List, sum_by}
use Rattle.std.proofs.lemmas.List.{at_drop_all}
use Rattle.ip_spec.specs.declared.record.InodeChild.{InodeChild}
use Rattle.ip_tree.proofs.load.counted.Goals as goal

pub returns : goal.returns
returns c =
    let end = at_drop_all (λ (l : List InodeChild). sum_by (λ (c : InodeChild). c.count) l) c.args.children.now c.loop-child.child-index c.loop-child-test.false in
    omega (arith, end, c.loop-child.invariant.within, c.loop-child.invariant.sum)
