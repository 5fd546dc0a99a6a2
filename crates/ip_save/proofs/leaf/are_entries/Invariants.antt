use Rattle.std.specs.List.{AllWithin}
use Rattle.ip_spec.specs.Record.{IsLeafEntry}
use Rattle.ip_save.proofs.leaf.are_entries.Given as goal

abbrev pub invariant-loop-entry : goal.invariant-loop-entry
invariant-loop-entry l = AllWithin IsLeafEntry l.entries 0 l.entry-index
