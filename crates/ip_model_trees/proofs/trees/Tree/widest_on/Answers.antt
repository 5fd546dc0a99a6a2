use Rattle.std.proofs.Common.{ap, sym, ◌∙◌, take}
use Rattle.std.specs.Prelude.{fold}
use Rattle.ip_spec.specs.Tree.{subtree}
use Rattle.ip_model_trees.proofs.PartLaws.{wider, ways_more, ways_end}
use Rattle.ip_model_trees.proofs.trees.Tree.widest_on.Goals as goal

pub loop-n-preserved : goal.loop-n-preserved
loop-n-preserved c t is =
    let path = c.args.path.now in
    ways_more t path c.loop-n.n c.loop-n.widest c.max-widest.result c.in_ok-entry_count.field-0 c.loop-n-test.true (c.in_ok-entry_count.ensures (subtree t (take c.loop-n.n path)) (c.in_ok-sub.ensures t is)) c.max-widest.ensures
    ∙ c.loop-n.invariant t is

pub returns : goal.returns
returns c t is =
    sym (ap (fold (wider t) c.loop-n.widest) (ways_end c.args.path.now c.loop-n.n c.loop-n-test.false)) ∙ c.loop-n.invariant t is
