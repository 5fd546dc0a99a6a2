-- As what faults are counted.
use Rattle.ip_ground.specs.Counts.{Counted, as_nothing, as_fault, as_damage}
use Rattle.ip_space.specs.declared.fault.FetchFault.{FetchFault}
use Rattle.ip_space.specs.declared.fault.FetchFault.TheVariants as fetch
use Rattle.ip_space.specs.declared.fault.SpaceFault.{SpaceFault}
use Rattle.ip_space.specs.declared.fault.SpaceFault.TheVariants as space

abbrev pub counted_fetch : FetchFault → Counted
counted_fetch fetch.Ground = as_fault
counted_fetch (fetch.Form at fault) = as_damage
counted_fetch (fetch.Name at want got) = as_damage
counted_fetch fetch.Memory = as_nothing

abbrev pub counted_space : SpaceFault → Counted
counted_space space.Ground = as_fault
counted_space (space.Damaged file at) = as_damage
counted_space space.Memory = as_nothing
