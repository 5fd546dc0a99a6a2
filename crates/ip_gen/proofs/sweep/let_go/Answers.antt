use Rattle.std.proofs.Common.{rules}
use Rattle.std.proofs.lemmas.Fn.{filter_same}
use Rattle.ip_spec.specs.Core.{stays}
use Rattle.ip_gen.proofs.sweep.let_go.Goals as goal

pub returns : goal.returns
returns c = filter_same _ (stays c.args.commit c.args.kept.now.keys) _ (λ r b f' k. search rules) _ _ c.retain.ensures.filtered
