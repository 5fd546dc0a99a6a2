use Rattle.std.proofs.Common.{◌≡◌, take}
use Rattle.ip_space.proofs.copied.copy_entries.Given as goal

abbrev pub invariant-loop-entry : goal.invariant-loop-entry
invariant-loop-entry l = l.copy ≡ take l.entry-index l.fn.entries
