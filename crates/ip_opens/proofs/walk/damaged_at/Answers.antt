use Rattle.std.proofs.Common.{sym, ◌∙◌, subst}
use Rattle.std.specs.Prelude.{Option, IsSome, ℕ}
use Rattle.ip_ground.specs.declared.names.FileName.{FileName}
use Rattle.ip_opens.proofs.walk.damaged_at.Goals as goal

pub unreachable-requires : goal.unreachable-requires
unreachable-requires c = absurd (cc (subst (λ (o : Option (FileName × ℕ)). IsSome o) (sym c.lies_at.ensures ∙ c.in-None.is) c.requires))
