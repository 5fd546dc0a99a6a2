use Rattle.std.proofs.Common.{◌≡◌, map, take}
use Rattle.sha2.specs.Sha256.{sha256}
use Rattle.ip_shape.proofs.part.places_of.Given as goal

abbrev pub invariant-loop-i : goal.invariant-loop-i
invariant-loop-i l = l.places.items ≡ map sha256 (take l.i l.steps)
