use Rattle.std.proofs.Common.{◌≡◌, map, take}
use Rattle.ip_model_trees.specs.Parts.{item_in}
use Rattle.ip_model_trees.proofs.trees.listing.Given as goal

abbrev pub invariant-loop-entry : goal.invariant-loop-entry
invariant-loop-entry l = l.items ≡ map item_in (take l.entry-index l.entries)
