use Rattle.std.proofs.Common.{◌≡◌, [], ap, subst, ◌∙◌}
use Rattle.std.specs.Prelude.{IfOk}
use Rattle.ip_spec.specs.Map.{get}
use Rattle.ip_spec.specs.Tree.{subtree, got_by}
use Rattle.ip_spec.specs.declared.tree.Got.{Got}
use Rattle.ip_model_trees.proofs.PartLaws.{got_is}
use Rattle.ip_model_trees.proofs.trees.Tree.got_at.Goals as goal

pub returns : goal.returns
returns c t is =
    let path = c.args.path.now in
    let sub = subtree t path in
    let here = c.in_ok-sub.ensures t is in
    subst (λ (x : Got). IfOk c.got.result (λ got. got ≡ x)) (ap (λ b. got_by (get sub []) b sub) (c.is_nothing.ensures sub here) ∙ got_is t path) (c.got.ensures sub here)
