use Rattle.std.proofs.Common.{sym, ◌∙◌}
use Rattle.ip_merge.proofs.SameText.{same_bytes_is}
use Rattle.ip_spec.specs.Merge.{same_value}
use Rattle.ip_spec.specs.Path.{same_bytes}
use Rattle.ip_three.proofs.contents.is_same.Goals as goal

pub returns-in-Some-Some : goal.returns-in-Some-Some
returns-in-Some-Some c =
    c.eq.ensures ∙ same_bytes_is c.as_slice.result.now c.as_slice-in-Some-Some.result.now ∙ (λ i. same_bytes (c.as_slice.ensures i) (c.as_slice-in-Some-Some.ensures i))
    ∙ sym (λ i. same_value (c.in-Some-Some.is-0 i) (c.in-Some-Some.is-1 i))
