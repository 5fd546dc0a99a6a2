use Rattle.std.proofs.Common.{◌≡◌, take}
use Rattle.ip_ground.specs.Replay.{blank, replayed}
use Rattle.ip_ground.proofs.steps.said_in.Given as goal

abbrev pub invariant-loop-event : goal.invariant-loop-event
invariant-loop-event l = l.out.items ≡ (replayed blank (take l.event-index l.log)).said
