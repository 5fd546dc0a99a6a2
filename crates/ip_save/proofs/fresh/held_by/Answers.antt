use Rattle.std.proofs.Common.{Option, sym, subst}
use Rattle.std.specs.Prelude.{IfErr}
use Rattle.ip_spec.specs.declared.record.Ref.{Ref}
use Rattle.ip_save.specs.Reused.{IsLost, IsThere}
use Rattle.ip_save.proofs.fresh.held_by.Goals as goal

pub returns-clause-lost : goal.returns-clause-lost
returns-clause-lost g c =
    subst (λ (e : Option Ref). IfErr c.held_in.result (IsLost g.G.Ground.tells (g.G.Ground.told c.args.outside.now) c.args.space.now 0 (λ records. IsThere records e))) (sym c.in-Some.is) c.held_in.ensures.lost
