-- What a ground in memory notes: a count that rises, where the folders that were asked for stay so.
use Rattle.std.proofs.Common.{◌≡◌, sym, subst}
use Rattle.ip_ground.specs.declared.names.GroundCounts.{GroundCounts}
use Rattle.ip_ground.specs.declared.bench.Bound.{Bound}
use Rattle.ip_ground.specs.Bound.{binding_of}
use Rattle.ip_ground.specs.Counts.{Binding, Noted, noting}

-- what a ground in memory notes
abbrev pub noted_by : GroundCounts → Bound → Noted
noted_by counts bound = noting counts (binding_of bound)

-- behind a step that keeps both
pub noted_on : (P : Noted → Noted → Type 0) (old mid new : GroundCounts) (was now : Bound) → (mid ≡ old) × (now ≡ was) → ((bound : Binding) → P (noting mid bound) (noting new bound)) → P (noted_by old was) (noted_by new now)
noted_on P old mid new was now same so =
    subst (λ (b : Bound). P (noted_by old was) (noted_by new b)) (sym same.1) (subst (λ (counts : GroundCounts). P (noted_by counts was) (noted_by new was)) same.0 (so (binding_of was)))

-- from what was bound, as it is told otherwise
pub noted_from : (P : Noted → Noted → Type 0) (counts : GroundCounts) (now : Noted) (bound : Bound) (told : Binding) → binding_of bound ≡ told → P (noted_by counts bound) now → P (noting counts told) now
noted_from P counts now bound told same so = subst (λ (b : Binding). P (noting counts b) now) same so
