use Rattle.std.proofs.Common.{rules, ◌≡◌, refl, sym, ap, Some, Option, length}
use Rattle.std.specs.Prelude.{slice_get}
use Rattle.std.specs.Option.{option_map}
use Rattle.std.proofs.lemmas.Option.{slice_get_read}
use Rattle.ip_spawn.specs.declared.scripted.Plan.{Plan}
use Rattle.ip_spawn.proofs.scripted.ScriptedSpawner.start.Goals as goal

pub returns-clause-planned : goal.returns-clause-planned
returns-clause-planned c =
    let plans = c.args.self.now.plans.items in
    let place = length c.args.self.now.started.items in
    let found : slice_get plans place ≡ Some c.in-Some.plan.now = slice_get_read plans (length plans) place c.in-Some.plan.now refl (search rules) (search rules) in
    ap (λ (plan : Option Plan). option_map (λ p. record { attempt = c.args.job.now.attempt; plan = p }) plan) (sym found)
