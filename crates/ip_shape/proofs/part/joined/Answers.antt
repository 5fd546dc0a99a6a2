use Rattle.std.proofs.Common.{◌∙◌, List, ap, subst, sym}
use Rattle.std.specs.Prelude.{◌||◌}
use Rattle.ip_spec.specs.Path.{Step}
use Rattle.ip_shape.specs.Shape.{AreSteps, has, take_out}
use Rattle.ip_shape.proofs.Members.{same_steps}
use Rattle.ip_shape.proofs.part.joined.Goals as goal

pub returns-clause-left : goal.returns-clause-left
returns-clause-left g c steps ascend is =
    let none = c.in_ok-steps.ensures.items in
    let all = c.in_ok-gather.ensures.gathered steps is (subst AreSteps (sym none) tt) in
    c.take_from.ensures ∙ ap (take_out c.args.step.now) (same_steps c.gather.new.into.items steps all.0 ascend (λ q. all.1 q ∙ ap (λ (ss : List Step). has q ss || has q steps) none))
