use Rattle.ip_model_trees.proofs.Decided.{merged_so}
use Rattle.ip_model_trees.proofs.trees.Tree.merge.Goals as goal

pub returns : goal.returns
returns g c o a b base left right one =
    merged_so (g.D.Decides.rule c.args.rules.now) one o a b _ _ _ _ _ _ _ _ c.outcome.result base left right c.in_ok-copy.ensures c.in_ok-with_all.ensures c.in_ok-paths.ensures c.in_ok-answers.ensures c.as_slice.ensures.value c.outcome.ensures
