-- As what faults of making and of opening a store are counted.
use Rattle.ip_ground.specs.Counts.{Counted, as_nothing, as_fault, as_damage}
use Rattle.ip_opens.specs.declared.making.InitFault.{InitFault}
use Rattle.ip_opens.specs.declared.making.InitFault.TheVariants as init
use Rattle.ip_opens.specs.declared.opening.OpenFault.{OpenFault}
use Rattle.ip_opens.specs.declared.opening.OpenFault.TheVariants as opening

abbrev pub counted_init : InitFault → Counted
counted_init init.Ground = as_fault
counted_init init.Existing = as_nothing

abbrev pub counted_open : OpenFault → Counted
counted_open opening.Ground = as_fault
counted_open opening.NoStore = as_nothing
counted_open (opening.Damaged file at) = as_damage
counted_open opening.Memory = as_nothing
