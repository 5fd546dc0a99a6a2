use Rattle.std.proofs.Common.{◌≡◌, refl, sym, ap, subst, ◌∙◌}
use Rattle.ip_spec.specs.Tree.{contents}
use Rattle.ip_tree.specs.Meaning.{NodeIs}
use Rattle.ip_tree.specs.Node as view
use Rattle.ip_tree.specs.Shown.{shown}
use Rattle.ip_tree.specs.declared.node.Node.TheVariants as variant
use Rattle.ip_tree.proofs.Nodes.{contents_shown}
use Rattle.ip_tree.proofs.Setting.{sets_placed}
use Rattle.ip_tree.proofs.tree.Tree.set.Goals as goal

pub returns-clause-sets : goal.returns-clause-sets
returns-clause-sets g c tells records v over is =
    let bytes = c.args.value.now in
    let node : shown (variant.Contents c.in_ok-contents.contents) ≡ view.contents bytes = contents_shown c.in_ok-contents.contents ∙ ap view.contents c.in_ok-contents.ensures in
    let means : NodeIs records (shown (variant.Contents c.in_ok-contents.contents)) (contents bytes) = subst (λ (n : view.Node). NodeIs records n (contents bytes)) (sym node) refl in
    sets_placed records c.args.self.now v is c.args.path.now bytes c.requires c.if-value-gt-CONTENTS_MAX.false c.place.new.self _ c.place.result node (c.place.ensures.place tells records v (contents bytes) over is means)
