-- As what faults are counted. Whether a slot that is no slot is damage, its caller knows.
use Rattle.ip_ground.specs.Counts.{Counted, as_nothing, as_fault}
use Rattle.ip_control.specs.declared.fault.ControlFault.{ControlFault}
use Rattle.ip_control.specs.declared.fault.ControlFault.TheVariants.{Ground, Form}

abbrev pub counted_control : ControlFault → Counted
counted_control Ground = as_fault
counted_control (Form slot) = as_nothing
