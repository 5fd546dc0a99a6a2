use Rattle.ip_app.proofs.RuleCases.{decides}
use Rattle.ip_app.proofs.rules.program_rules_decide.Goals as goal

pub returns : goal.returns
returns c = decides
