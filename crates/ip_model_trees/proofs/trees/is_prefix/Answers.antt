use Rattle.std.proofs.Common.{ap, ◌∙◌}
use Rattle.std.specs.Prelude.{is_some}
use Rattle.ip_model_trees.proofs.PartLaws.{some_prefix, mapped}
use Rattle.ip_model_trees.proofs.trees.is_prefix.Goals as goal

pub returns : goal.returns
returns c = c.is_some.ensures ∙ (mapped (λ rest. rest.now) c.after_prefix.result ∙ (ap is_some c.after_prefix.ensures ∙ some_prefix c.args.prefix.now c.args.path.now))
