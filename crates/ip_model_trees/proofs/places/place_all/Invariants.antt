use Rattle.std.proofs.Common.{◌≡◌, map, take}
use Rattle.std.specs.Prelude.{All}
use Rattle.ip_model_trees.specs.Places.{entry_of, IsPlaced}
use Rattle.ip_model_trees.proofs.places.place_all.Given as goal

abbrev pub invariant-loop-entry : goal.invariant-loop-entry
invariant-loop-entry l = (map entry_of l.all.items ≡ take l.entry-index l.entries) × All IsPlaced l.all.items
