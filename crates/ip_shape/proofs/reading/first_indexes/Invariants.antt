use Rattle.std.proofs.Common.{◌≡◌, take}
use Rattle.sha2.specs.Sha256.{sha256}
use Rattle.ip_spec.specs.Path.{Step}
use Rattle.ip_shape.specs.Loaded.{way_to}
use Rattle.ip_shape.proofs.reading.first_indexes.Given as goal

abbrev pub invariant-loop-i : goal.invariant-loop-i
invariant-loop-i l = (s : Step) → l.places ≡ sha256 s → l.indexes.items ≡ take l.i (way_to s)
