use Rattle.std.proofs.Common.{◌∙◌, sym, subst, List}
use Rattle.ip_spec.specs.Path.{Step}
use Rattle.ip_spec.specs.Shape.{deepest}
use Rattle.ip_shape.specs.Shape.{IsPart}
use Rattle.ip_shape.specs.Directory.{steps_of, root_of}
use Rattle.ip_shape.proofs.Entries.{has_of}
use Rattle.ip_shape.proofs.Members.{same_steps}
use Rattle.ip_shape.proofs.OneShape.{alike}
use Rattle.ip_shape.proofs.dir.one_directory.Goals as goal

pub returns : goal.returns
returns g c entries others one other x y same =
    let one_set = same_steps (steps_of entries) (steps_of others) x.0.1 y.0.1 (λ s. has_of s entries ∙ same s ∙ sym (has_of s others)) in
    alike deepest 0 (steps_of others) (root_of one) (root_of other) (subst (λ (ss : List Step). IsPart deepest 0 ss (root_of one)) one_set x.0.2) y.0.2
