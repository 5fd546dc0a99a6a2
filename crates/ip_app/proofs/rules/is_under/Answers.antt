use Rattle.std.proofs.Common.{◌≡◌, Some, sym, ◌∙◌, ap}
use Rattle.std.specs.Prelude.{slice_get}
use Rattle.ip_merge.proofs.SameText.{same_bytes_is}
use Rattle.ip_spec.specs.Path.{same_bytes}
use Rattle.ip_app.proofs.RuleCases.{under_first}
use Rattle.ip_app.proofs.rules.is_under.Goals as goal

pub returns-in-Some : goal.returns-in-Some
returns-in-Some c =
    let first : slice_get c.args.path.now 0 ≡ Some c.in-Some.first.now = sym c.in-Some.ensures.value in
    c.eq.ensures ∙ same_bytes_is c.args.step.now c.bytes.result.now ∙ ap (same_bytes c.args.step.now) c.bytes.ensures ∙ under_first c.args.step.now c.in-Some.first.now c.args.path.now first
