-- Runs whose rows fit below a horizon.
--     rows_inside      each ends at or below it.      rows_sum      what they add up to
use Rattle.std.proofs.Common.{ℕ, ◌+◌, ◌≤◌, List, [], ◌∷◌, arith}
use Rattle.std.proofs.lemmas.List.Sums.{sum_by-cons}
use Rattle.ip_image.specs.declared.run.Run.{Run}
use Rattle.ip_image.specs.Virtual.{total, placed, RowsFitFrom}
use Rattle.ip_space.specs.SpaceView.{AreBelow}

pub rows_inside : (h from place end : ℕ) (runs : List Run) → h ≤ end → RowsFitFrom h from place (placed place runs) → AreBelow end runs
rows_inside h from place end [] le fits = tt
rows_inside h from place end (run ∷ runs) le (one, rest) = (let b = one.below in omega (arith, b, le), rows_inside h (run.at + run.length + 1) (place + run.length) end runs le rest)

pub rows_sum : (h from place : ℕ) (runs : List Run) → from ≤ h + 1 → RowsFitFrom h from place (placed place runs) → from + total runs ≤ h + 1
rows_sum h from place [] le fits = omega (arith, le)
rows_sum h from place (run ∷ runs) le (one, rest) =
    let a = one.apart in
    let b = one.below in
    let s = sum_by-cons (λ (run : Run). run.length) run runs in
    let deep = rows_sum h (run.at + run.length + 1) (place + run.length) runs (omega (arith, b)) rest in
    omega (arith, a, s, deep)
