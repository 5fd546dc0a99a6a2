use Rattle.std.proofs.Common.{◌≡◌, take}
use Rattle.ip_model_trees.specs.Places.{entries_at}
use Rattle.ip_model_trees.proofs.places.entries_at.Given as goal

abbrev pub invariant-loop-placed : goal.invariant-loop-placed
invariant-loop-placed l = l.there.items ≡ entries_at l.depth l.index (take l.placed-index l.entries)
