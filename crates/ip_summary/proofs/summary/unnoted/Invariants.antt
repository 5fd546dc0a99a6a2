use Rattle.std.proofs.Common.{◌≡◌, map, take}
use Rattle.ip_summary.specs.Tally.{pair_of}
use Rattle.ip_summary.proofs.summary.unnoted.Given as goal

abbrev pub invariant-loop-word : goal.invariant-loop-word
invariant-loop-word l = map pair_of l.entries.items ≡ map (λ word. (word.now, 0)) (take l.word-index l.words)
