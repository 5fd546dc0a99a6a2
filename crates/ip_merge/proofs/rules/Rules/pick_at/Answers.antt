use Rattle.std.proofs.Common.{refl, subst, get_or}
use Rattle.ip_merge.specs.Rules.{Picks}
use Rattle.ip_merge.proofs.rules.Rules.pick_at.Goals as goal

pub returns-in-Some : goal.returns-in-Some
returns-in-Some g c =
    let rule = get_or c.as_slice-rules.result.now c.in-Some.at c.index-rules-at.result in (
      rule,
      subst (λ rules. Picks (λ r. r.at) c.args.path.now rules rule) c.as_slice-rules.ensures.value (c.in-Some.ensures.1 c.index-rules-at.result),
      refl,
    )
