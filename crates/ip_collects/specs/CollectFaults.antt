-- As what faults of the calls of a collection are counted.
use Rattle.ip_ground.specs.Counts.{Counted, as_nothing, as_fault, as_damage}
use Rattle.ip_collects.specs.declared.starting.CollectFault.{CollectFault}
use Rattle.ip_collects.specs.declared.starting.CollectFault.TheVariants as starting
use Rattle.ip_collects.specs.declared.finishing.FinishFault.{FinishFault}
use Rattle.ip_collects.specs.declared.finishing.FinishFault.TheVariants as finishing

abbrev pub counted_start : CollectFault → Counted
counted_start starting.Ground = as_fault
counted_start (starting.Busy name) = as_nothing
counted_start (starting.Held place) = as_nothing
counted_start (starting.Limit limit) = as_nothing
counted_start starting.Start = as_nothing
counted_start starting.Memory = as_nothing

abbrev pub counted_finish : FinishFault → Counted
counted_finish finishing.Ground = as_fault
counted_finish finishing.Idle = as_nothing
counted_finish finishing.Wait = as_nothing
counted_finish (finishing.Rejected rejection) = as_nothing
counted_finish (finishing.Limit limit) = as_nothing
counted_finish (finishing.Damaged at) = as_damage
counted_finish finishing.Memory = as_nothing
