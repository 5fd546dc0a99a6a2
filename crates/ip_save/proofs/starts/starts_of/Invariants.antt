use Rattle.ip_save.specs.Laid.{BeginsWith, tallies_among}
use Rattle.ip_save.proofs.Rests.{rest_of}
use Rattle.ip_save.proofs.Tables.{StartsOn}
use Rattle.ip_save.proofs.starts.starts_of.Given as goal

abbrev pub invariant-loop-step : goal.invariant-loop-step
invariant-loop-step l =
    (goal.iterator-loop-step).can_next l.step-iterator ×
    (goal.iterator-loop-step).is_finite l.step-iterator ×
    (BeginsWith (tallies_among (rest_of l.fn.dir.entries.entries)) l.fn.ahead
    → StartsOn (rest_of l.step-iterator) (rest_of l.fn.dir.entries.entries) l.left l.fn.refs l.starts.items × BeginsWith (tallies_among (rest_of l.step-iterator)) l.below)
