use Rattle.ip_merge.proofs.RuleLaws.{one_rule}
use Rattle.ip_merge.proofs.rules.Rules.one_answer.Goals as goal

pub returns : goal.returns
returns g c p = one_rule (λ r. r.at) p _ c.args.self.now.list.items c.requires
