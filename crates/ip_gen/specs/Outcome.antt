-- What a call on the core answers.
use Rattle.ip_spec.specs.declared.event.Event.{Event}
use Rattle.ip_spec.specs.Core.{Core, CoreStep}

-- the event is not allowed
abbrev pub IsRefused : Core → Event → Type 0
IsRefused core event = (next : Core) → ¬ (CoreStep core event next)

-- an append and a start take memory, and no other event does
abbrev pub TakesMemory : Event → Type 0
TakesMemory (Event.Append records) = Unit {0}
TakesMemory (Event.Start commit) = Unit {0}
TakesMemory Event.Foreign = ⊥
TakesMemory Event.End = ⊥
TakesMemory Event.Accept = ⊥
TakesMemory Event.Reject = ⊥
TakesMemory Event.Cancel = ⊥
TakesMemory Event.Crash = ⊥
TakesMemory Event.Sweep = ⊥
