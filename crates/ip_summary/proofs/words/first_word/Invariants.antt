use Rattle.std.proofs.Common.{◌≡◌, false, take}
use Rattle.std.specs.List.{list_any}
use Rattle.ip_summary.specs.Tally.{is_stop}
use Rattle.ip_summary.proofs.words.first_word.Given as goal

abbrev pub invariant-loop-end : goal.invariant-loop-end
invariant-loop-end l = list_any is_stop (take l.end l.text) ≡ false
