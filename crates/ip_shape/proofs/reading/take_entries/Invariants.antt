use Rattle.std.proofs.Common.{◌≡◌, drop}
use Rattle.ip_shape.specs.Directory.{entries_off}
use Rattle.ip_shape.proofs.reading.take_entries.Given as goal

abbrev pub invariant-loop-i : goal.invariant-loop-i
invariant-loop-i g l = entries_off (drop l.i l.steps) l.map.entries ≡ entries_off l.steps l.fn.map.entries
