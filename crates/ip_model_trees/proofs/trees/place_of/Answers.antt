use Rattle.std.proofs.Common.{◌≡◌, arith}
use Rattle.std.specs.declared.cmp.Ordering.TheVariants.{Less, Equal, Greater}
use Rattle.ip_model_trees.proofs.Placing.{put_less, put_equal, put_greater}
use Rattle.ip_model_trees.proofs.trees.place_of.Goals as goal

pub returns-in-Less-clause-err : goal.returns-in-Less-clause-err
returns-in-Less-clause-err g c =
    let item = c.index-list-i.result in
    let order : g.K.Ord.cmp c.args.key.now item.0 ≡ Less = cc (c.cmp.ensures, c.in-Less.is) in
    (omega (arith, c.loop-i-test.true), λ v. put_less g.K.Ord.cmp c.args.key.now v c.args.list.now c.loop-i.i item c.loop-i-test.true c.index-list-i.is (c.loop-i.invariant v) order)

pub returns-in-Equal-clause-ok : goal.returns-in-Equal-clause-ok
returns-in-Equal-clause-ok g c =
    let item = c.index-list-i.result in
    let order : g.K.Ord.cmp c.args.key.now item.0 ≡ Equal = cc (c.cmp.ensures, c.in-Equal.is) in
    (c.loop-i-test.true, λ e v is. put_equal g.K.Ord.cmp c.args.key.now v c.args.list.now c.loop-i.i item c.loop-i-test.true c.index-list-i.is (c.loop-i.invariant v) order e is)

pub loop-i-preserved : goal.loop-i-preserved
loop-i-preserved g c v =
    let item = c.index-list-i.result in
    let order : g.K.Ord.cmp c.args.key.now item.0 ≡ Greater = cc (c.cmp.ensures, c.in-Greater.is) in
    put_greater g.K.Ord.cmp c.args.key.now v c.args.list.now c.loop-i.i item c.loop-i-test.true c.index-list-i.is (c.loop-i.invariant v) order
