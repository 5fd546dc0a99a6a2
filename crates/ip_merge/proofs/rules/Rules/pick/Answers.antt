use Rattle.ip_merge.proofs.rules.Rules.pick.Goals as goal

pub returns : goal.returns
returns g c = rw c.steps.ensures at c.pick_at.ensures
