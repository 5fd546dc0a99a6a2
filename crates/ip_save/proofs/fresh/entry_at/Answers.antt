use Rattle.std.proofs.Common.{sym, subst, refl}
use Rattle.ip_save.specs.Reused.{IsDirectoryThere, IsThere}
use Rattle.ip_save.proofs.Finding.{entry_there}
use Rattle.ip_save.proofs.fresh.entry_at.Goals as goal

pub returns-in-Ok-clause-there : goal.returns-in-Ok-clause-there
returns-in-Ok-clause-there g c tells records over there =
    let dir = subst (IsDirectoryThere records) c.in-Some.is there in
    subst (IsThere records) (sym c.reference_of.ensures) (entry_there records dir.0 c.args.step.now c.in-Ok.found (c.in-Ok.ensures.entry tells records 0 dir.0 over refl dir.1))
