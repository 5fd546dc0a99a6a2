use Rattle.std.proofs.Common.{◌≡◌, ap, sym, ◌∙◌, arith}
use Rattle.ip_model_trees.specs.Places.{children_below}
use Rattle.ip_model_trees.proofs.Parting.{child_more, opened}
use Rattle.ip_model_trees.proofs.places.children.Goals as goal

pub loop-index-preserved : goal.loop-index-preserved
loop-index-preserved c = child_more c.args.depth c.loop-index.index c.args.entries.now c.in_ok-there.there.items c.loop-index.all.items _ c.loop-index.invariant c.in_ok-there.ensures c.in_ok-push_some.ensures

pub returns : goal.returns
returns c =
    let last : c.loop-index.index ≡ 32 = omega arith in
    c.loop-index.invariant ∙ (ap (λ n. children_below c.args.depth n c.args.entries.now) last ∙ sym (opened c.args.depth c.args.entries.now))
