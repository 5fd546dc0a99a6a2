use Rattle.std.proofs.Common.{◌≡◌, ℕ, List}
use Rattle.std.specs.Prelude.{slice_get}
use Rattle.ip_spec.specs.Path.{Bytes}
use Rattle.ip_tables.proofs.Keyed.{Pairs, told}
use Rattle.ip_tables.proofs.branches.Branches.at.Given as goal

abbrev left_over : Pairs ℕ → ℕ → List (Bytes × ℕ) → ℕ → Type 0
left_over es left all place = slice_get (told es) left ≡ slice_get all place

abbrev pub invariant-loop-name : goal.invariant-loop-name
invariant-loop-name l =
    (goal.iterator-loop-name).can_next l.name-iterator ×
    (goal.iterator-loop-name).is_finite l.name-iterator ×
    left_over l.name-iterator l.left l.self.entries l.place
