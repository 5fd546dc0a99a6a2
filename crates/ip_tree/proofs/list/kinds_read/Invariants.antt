use Rattle.std.proofs.Common.{◌≡◌, ◌++◌, map}
use Rattle.ip_tree.specs.Listing.{kind_at}
use Rattle.ip_tree.specs.Shown.{entries_shown, shown_entry}
use Rattle.ip_tree.proofs.list.kinds_read.Given as goal

abbrev pub invariant-loop-step : goal.invariant-loop-step
invariant-loop-step l = l.kinds.entries ++ map kind_at (map shown_entry l.step-iterator) ≡ map kind_at (entries_shown l.dir)
