-- As what faults are counted.
use Rattle.ip_ground.specs.Counts.{Counted, as_nothing, as_fault, as_damage}
use Rattle.ip_held.specs.declared.fault.StoreFault.{StoreFault}
use Rattle.ip_held.specs.declared.fault.StoreFault.TheVariants as store

abbrev pub counted_store : StoreFault → Counted
counted_store store.Ground = as_fault
counted_store (store.HeadMoved name) = as_nothing
counted_store (store.Existing name) = as_nothing
counted_store (store.Limit limit) = as_nothing
counted_store (store.Damaged at names) = as_damage
counted_store store.Memory = as_nothing
counted_store (store.GivenUp number) = as_nothing
counted_store (store.Leaving number) = as_nothing
