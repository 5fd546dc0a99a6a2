use Rattle.std.proofs.Common.{ap, sym, ◌∙◌}
use Rattle.std.specs.Prelude.{position}
use Rattle.ip_spec.specs.Path.{same_bytes}
use Rattle.ip_model.specs.declared.commits.Commit.{Commit}
use Rattle.ip_model.proofs.Kept.{placed}
use Rattle.ip_model.proofs.commits.Commits.number_named.Goals as goal

pub returns-in-Some : goal.returns-in-Some
returns-in-Some c r of = c.in-Some.ensures ∙ (ap (position (λ (m : Commit). same_bytes m.name c.args.name.now)) (c.as_slice.ensures.value ∙ c.self.view_is) ∙ sym (placed c.args.self.now r of c.args.name.now))

pub returns-in-None : goal.returns-in-None
returns-in-None c r of = c.in-None.ensures ∙ (ap (position (λ (m : Commit). same_bytes m.name c.args.name.now)) (c.as_slice.ensures.value ∙ c.self.view_is) ∙ sym (placed c.args.self.now r of c.args.name.now))
