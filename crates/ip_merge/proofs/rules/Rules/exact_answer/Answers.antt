use Rattle.ip_merge.proofs.RuleLaws.{decisive_rule}
use Rattle.ip_merge.proofs.rules.Rules.exact_answer.Goals as goal

pub returns : goal.returns
returns g c p = decisive_rule (λ r. r.at) p _ c.args.self.now.list.items c.requires
