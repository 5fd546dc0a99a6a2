use Rattle.std.proofs.Common.{◌≡◌, ◌↔◌, take, IsTrue}
use Rattle.ip_ground.specs.Custody.{lent}
use Rattle.ip_ground.specs.Told.{lending}
use Rattle.ip_ground.specs.Replay.{told_by}
use Rattle.ip_ground.proofs.steps.is_lent.Given as goal

abbrev pub invariant-loop-event : goal.invariant-loop-event
invariant-loop-event l = IsTrue l.is_lent ↔ (lending (told_by (take l.event-index l.log)) l.attempt ≡ lent)
