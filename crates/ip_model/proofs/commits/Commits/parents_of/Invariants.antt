use Rattle.std.proofs.Common.{◌≡◌, ℕ, map, take}
use Rattle.ip_model.specs.Commits.{name_in}
use Rattle.ip_model.proofs.commits.Commits.parents_of.Given as goal

abbrev pub invariant-loop-number : goal.invariant-loop-number
invariant-loop-number l = l.parents ≡ map (λ (n : ℕ). record { number = n; name = name_in l.self n }) (take l.number-index l.numbers)
