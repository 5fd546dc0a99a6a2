-- As what faults are counted.      IsUndamaged result      no damage was met
--     unread_as at fault      what a fault says of the record at an offset
use Rattle.std.specs.Prelude.{ℕ, Result, IsErrOf}
use Rattle.ip_ground.specs.Counts.{Counted, as_nothing, as_fault, as_damage}
use Rattle.ip_space.specs.declared.fault.FetchFault.{FetchFault}
use Rattle.ip_space.specs.declared.fault.FetchFault.TheVariants as fetch
use Rattle.ip_keep.specs.declared.fault.KeepFault.{KeepFault}

abbrev pub counted_keep : KeepFault → Counted
counted_keep KeepFault.Ground = as_fault
counted_keep (KeepFault.Damaged at) = as_damage
counted_keep KeepFault.Memory = as_nothing

abbrev pub unread_as : ℕ → FetchFault → KeepFault
unread_as at fetch.Ground = KeepFault.Ground
unread_as at (fetch.Form place fault) = KeepFault.Damaged at
unread_as at (fetch.Name place want got) = KeepFault.Damaged at
unread_as at fetch.Memory = KeepFault.Memory

abbrev pub IsUndamaged : {A : Type 0} → Result A KeepFault → Type 0
IsUndamaged result = (at : ℕ) → IsErrOf result (KeepFault.Damaged at) → ⊥
