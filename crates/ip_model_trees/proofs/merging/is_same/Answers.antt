use Rattle.std.proofs.Common.{◌∙◌, sym}
use Rattle.std.specs.Option.{option_copied}
use Rattle.ip_spec.specs.Merge.{same_value}
use Rattle.ip_merge.proofs.SameText.{same_bytes_is}
use Rattle.ip_model_trees.proofs.merging.is_same.Goals as goal

pub returns-in-Some-Some : goal.returns-in-Some-Some
returns-in-Some-Some c =
    c.eq.ensures ∙ same_bytes_is c.in-Some-Some.a.now c.in-Some-Some.b.now ∙ sym (λ i. same_value (option_copied (c.in-Some-Some.is-0 i)) (option_copied (c.in-Some-Some.is-1 i)))
