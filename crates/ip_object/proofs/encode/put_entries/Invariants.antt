use Rattle.std.proofs.Common.{◌≡◌, ◌++◌, take, flat_map}
use Rattle.ip_spec.specs.Record.{entry_spelling}
use Rattle.ip_object.proofs.encode.put_entries.Given as goal

abbrev pub invariant-loop-entry : goal.invariant-loop-entry
invariant-loop-entry l = l.out.items ≡ l.fn.out.items ++ flat_map entry_spelling (take l.entry-index l.entries)
