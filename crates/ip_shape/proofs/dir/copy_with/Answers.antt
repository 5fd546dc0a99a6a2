use Rattle.std.proofs.Common.{◌∙◌, sym, subst, List}
use Rattle.ip_spec.specs.Path.{Step}
use Rattle.ip_shape.specs.Shape.{AreSteps}
use Rattle.ip_shape.specs.declared.part.Part.{Part}
use Rattle.ip_shape.proofs.Partly.{stands_still}
use Rattle.ip_shape.proofs.Steps.{AreSteps-filter}
use Rattle.ip_shape.proofs.dir.copy_with.Goals as goal

pub returns-clause-partly : goal.returns-clause-partly
returns-clause-partly g c steps entries is are =
    let root : Part g.row.R.Denot = c.args.dir.now.root in
    let given : List (Step × g.row.D.Denot) = c.args.children.items in
    let stand = are ∙ is.3 in
    let ascend = subst AreSteps (sym stand) (AreSteps-filter _ steps is.1) in
    let rest = stands_still root c.in_ok-root.root steps given (is.1, is.2, stand) (c.in_ok-root.ensures.shape steps is.2) (λ q. (c.in_ok-root.ensures.same q).0) in
    (c.in_ok-entries.ensures ascend, rest.0, rest.1, rest.2)
