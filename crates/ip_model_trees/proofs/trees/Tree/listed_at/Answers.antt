use Rattle.std.proofs.Common.{◌≡◌, [], ap, subst, ◌∙◌}
use Rattle.std.specs.Prelude.{IfOk}
use Rattle.ip_spec.specs.Map.{get}
use Rattle.ip_spec.specs.Tree.{subtree, listed_by}
use Rattle.ip_spec.specs.declared.tree.Listed.{Listed}
use Rattle.ip_model_trees.proofs.PartLaws.{listed_is}
use Rattle.ip_model_trees.proofs.trees.Tree.listed_at.Goals as goal

pub returns : goal.returns
returns c t is =
    let path = c.args.path.now in
    let sub = subtree t path in
    let here = c.in_ok-sub.ensures t is in
    subst (λ (x : Listed). IfOk c.listed.result (λ listed. listed ≡ x)) (ap (λ b. listed_by (get sub []) b sub) (c.is_nothing.ensures sub here) ∙ listed_is t path) (c.listed.ensures sub here)
