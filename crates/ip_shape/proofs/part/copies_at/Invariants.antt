use Rattle.std.proofs.Common.{◌≡◌, take, map}
use Rattle.sha2.specs.Sha256.{sha256}
use Rattle.ip_shape.specs.Shape.{steps_at}
use Rattle.ip_shape.proofs.part.copies_at.Given as goal

abbrev pub invariant-loop-i : goal.invariant-loop-i
invariant-loop-i l = (l.copies.items ≡ steps_at l.depth l.index (take l.i l.steps)) × (l.their_places.items ≡ map sha256 l.copies.items)
