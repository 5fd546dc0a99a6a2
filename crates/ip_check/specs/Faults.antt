-- As what faults are counted.      IsUndamaged result      no damage was met
use Rattle.std.specs.Prelude.{ℕ, Result, IsErrOf}
use Rattle.ip_ground.specs.Counts.{Counted, as_nothing, as_fault, as_damage}
use Rattle.ip_check.specs.declared.fault.CheckFault.{CheckFault}

abbrev pub counted_check : CheckFault → Counted
counted_check CheckFault.Ground = as_fault
counted_check (CheckFault.Damaged at) = as_damage
counted_check CheckFault.Memory = as_nothing

abbrev pub IsUndamaged : {A : Type 0} → Result A CheckFault → Type 0
IsUndamaged result = (at : ℕ) → IsErrOf result (CheckFault.Damaged at) → ⊥
