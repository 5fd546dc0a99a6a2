use Rattle.std.proofs.Common.{◌≡◌, take}
use Rattle.ip_shape.specs.Directory.{steps_of}
use Rattle.ip_shape.proofs.reading.steps_in.Given as goal

abbrev pub invariant-loop-i : goal.invariant-loop-i
invariant-loop-i g l = l.steps.items ≡ steps_of (take l.i l.entries)
