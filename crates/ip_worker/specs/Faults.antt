-- What a collection's faults say of the counts, and as what it is.
--     CountsWork result old new      what was counted, by how it ended.      counted_work fault      whether the ground is blamed
use Rattle.std.specs.Prelude.{◌≡◌, ◌⊎◌, Result, Ok, Err}
use Rattle.ip_ground.specs.Counts.{Counted, Noted, FileFault, RemoveFault, DamageFound, as_nothing, as_fault, as_damage}
use Rattle.ip_worker.specs.declared.fault.WorkFault.{WorkFault}

-- one fault was counted where the ground is blamed, damage where the files are, and else nothing
abbrev pub CountsWork : {A : Type 0} → Result A WorkFault → Noted → Noted → Type 0
CountsWork (Ok x) old new = new ≡ old
CountsWork (Err WorkFault.Ground) old new = FileFault old new ⊎ RemoveFault old new
CountsWork (Err WorkFault.Damaged) old new = DamageFound old new
CountsWork (Err WorkFault.Memory) old new = new ≡ old

abbrev pub counted_work : WorkFault → Counted
counted_work WorkFault.Ground = as_fault
counted_work WorkFault.Damaged = as_damage
counted_work WorkFault.Memory = as_nothing
