use Rattle.std.proofs.Common.{◌≡◌, ◌++◌, map}
use Rattle.ip_tree.specs.Listing.{item_of}
use Rattle.ip_tree.proofs.list.items_of.Given as goal

abbrev pub invariant-loop-step : goal.invariant-loop-step
invariant-loop-step l = l.items.items ++ map item_of l.step-iterator ≡ map item_of l.fn.found.entries
