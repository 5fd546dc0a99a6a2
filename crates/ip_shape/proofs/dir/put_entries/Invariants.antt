use Rattle.std.proofs.Common.{◌≡◌, ◌++◌, drop, length}
use Rattle.ip_shape.specs.Directory.{entries_from}
use Rattle.ip_shape.proofs.dir.put_entries.Given as goal

abbrev pub invariant-loop-step : goal.invariant-loop-step
invariant-loop-step g l =
    (l.initial.left.items ≡ l.left.items ++ drop (length l.left.items) l.initial.left.items)
    × (l.map.entries ≡ entries_from (drop (length l.left.items) l.initial.left.items) l.fn.map.entries)

abbrev pub decreases-loop-step : goal.decreases-loop-step
decreases-loop-step g l = length l.left.items
