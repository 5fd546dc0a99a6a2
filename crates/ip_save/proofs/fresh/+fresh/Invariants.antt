use Rattle.std.proofs.Common.{◌≡◌, None}
use Rattle.ip_tree.specs.Reads.{Looks}
use Rattle.ip_save.specs.Laid.{BeginsWith, tallies_among}
use Rattle.ip_save.proofs.Finding.{SoFar}
use Rattle.ip_save.proofs.Rests.{rest_of}
use Rattle.ip_save.proofs.fresh.+fresh.Given as goal

abbrev pub invariant-find_in-loop-step : goal.invariant-find_in-loop-step
invariant-find_in-loop-step g l =
    let ground = g.G.Ground in
    (goal.iterator-find_in-loop-step g).can_next l.step-iterator ×
    (goal.iterator-find_in-loop-step g).is_finite l.step-iterator ×
    (BeginsWith (tallies_among (rest_of l.fn.dir.entries.entries)) l.fn.ahead
    → SoFar ground.tells (ground.told l.fn.outside) (ground.told l.outside) l.fn.space l.space l.fn.other (rest_of l.step-iterator) (rest_of l.fn.dir.entries.entries) l.fn.out.items l.out.items ×
    BeginsWith (tallies_among (rest_of l.step-iterator)) l.left) ×
    Looks ground.tells (ground.told l.fn.outside) (ground.told l.outside) l.fn.space l.space ×
    (ground.counts_of l.outside ≡ ground.counts_of l.fn.outside) ×
    (l.fn.other ≡ None → (l.outside ≡ l.fn.outside) × (l.space ≡ l.fn.space))
