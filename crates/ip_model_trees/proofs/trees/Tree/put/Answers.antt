use Rattle.std.proofs.Common.{◌≡◌, sym, subst, ◌∙◌}
use Rattle.std.specs.Prelude.{IfOk}
use Rattle.ip_spec.specs.Tree.{Tree, contents}
use Rattle.ip_model_trees.proofs.PartLaws.{put_is, contents_parts}
use Rattle.ip_model_trees.proofs.trees.Tree.put.Goals as goal

pub returns : goal.returns
returns c t is =
    subst (λ (x : Tree). IfOk c.place.result (λ u. u ≡ x.entries)) (put_is t c.args.path.now c.args.contents)
    (c.place.ensures t (contents c.args.contents) is (c.in_ok-sub.ensures ∙ sym (contents_parts c.args.contents)))
