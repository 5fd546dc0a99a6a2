use Rattle.ip_spec.specs.Repository.{Repository}
use Rattle.ip_held.specs.Held.{IsOf}
use Rattle.ip_collects.proofs.Started.{Below}
use Rattle.ip_collects.proofs.starting.held_below.Given as goal

abbrev pub invariant-loop-head : goal.invariant-loop-head
invariant-loop-head l =
    (goal.iterator-loop-head).can_next l.head-iterator ×
    (goal.iterator-loop-head).is_finite l.head-iterator ×
    ((r : Repository) → IsOf l.store r → Below r l.number l.head-iterator l.place)
