use Rattle.std.proofs.Common.{◌≡◌, ◌++◌, map, take, drop}
use Rattle.ip_summary.specs.Tally.{noted}
use Rattle.ip_summary.proofs.summary.note_word.Given as goal

abbrev pub invariant-loop-entry : goal.invariant-loop-entry
invariant-loop-entry l = l.entries ≡ map (noted l.word) (take l.entry-index l.fn.entries) ++ drop l.entry-index l.fn.entries
