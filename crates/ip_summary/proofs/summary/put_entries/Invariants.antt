use Rattle.std.proofs.Common.{◌≡◌, ◌+◌, ◌*◌, ◌≤◌, ◌++◌, take, flat_map, vec_len}
use Rattle.std.specs.Vec.{vec_capacity}
use Rattle.ip_summary.specs.Tally.{entry_text}
use Rattle.ip_summary.proofs.summary.put_entries.Given as goal

abbrev pub invariant-loop-entry : goal.invariant-loop-entry
invariant-loop-entry l = record {
  text : l.out.items ≡ l.fn.out.items ++ flat_map entry_text (take l.entry-index l.entries);
  room : vec_len l.out ≤ vec_len l.fn.out + 33 * l.entry-index;
  capacity : vec_capacity l.fn.out ≤ vec_capacity l.out;
}
