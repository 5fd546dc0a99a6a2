use Rattle.std.proofs.Common.{◌≡◌, ◌+◌, ◌++◌, length}
use Rattle.ip_save.specs.Laid.{fresh_among, tallies_among}
use Rattle.ip_save.proofs.Rests.{rest_of}
use Rattle.ip_save.proofs.tally.+tally.Given as goal

abbrev pub invariant-tally_entries-loop-node : goal.invariant-tally_entries-loop-node
invariant-tally_entries-loop-node l =
    (goal.iterator-tally_entries-loop-node).can_next l.node-iterator ×
    (goal.iterator-tally_entries-loop-node).is_finite l.node-iterator ×
    (l.new + length (fresh_among (rest_of l.node-iterator)) ≡ length (fresh_among (rest_of l.fn.dir.entries.entries))) ×
    (l.out.items ++ tallies_among (rest_of l.node-iterator) ≡ l.fn.out.items ++ tallies_among (rest_of l.fn.dir.entries.entries))
