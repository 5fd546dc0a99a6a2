-- Runs that are apart, below a horizon.
--     apart_total, apart_few      what they add up to, and how many they are.      apart_inside      each ends at or below it
--     joined_rows      those that touch joined, they are in order
use Rattle.std.proofs.Common.{ℕ, suc, ◌+◌, ◌^◌, ◌≤◌, List, [], ◌∷◌, ◌++◌, subst, Bool, true, false, cond, length, reverse, arith}
use Rattle.std.specs.Prelude.{◌==◌}
use Rattle.std.proofs.lemmas.Grind.{reverse_onto}
use Rattle.std.proofs.lemmas.List.Sums.{sum_by-cons}
use Rattle.ip_image.specs.declared.run.Run.{Run}
use Rattle.ip_image.specs.Virtual.{total, placed, RowsFitFrom}
use Rattle.ip_image.specs.Collection.{in_front}
use Rattle.ip_image.proofs.KeptRuns.{front_rows}
use Rattle.ip_space.specs.SpaceView.{AreBelow}
use Rattle.ip_keep.specs.Runs.{joined, least, AreApart, FitRuns}

pub apart_total : (h : ℕ) (runs : List Run) → AreApart h runs → least h runs + total runs ≤ h
apart_total h [] apart = omega arith
apart_total h (run ∷ runs) (some, low, apart) =
    let t = apart_total h runs apart in
    let c = sum_by-cons (λ (run : Run). run.length) run runs in
    omega (arith, t, c, low)

pub apart_few : (h : ℕ) (runs : List Run) → AreApart h runs → length runs ≤ total runs
apart_few h [] apart = omega arith
apart_few h (run ∷ runs) (some, low, apart) =
    let t = apart_few h runs apart in
    let c = sum_by-cons (λ (run : Run). run.length) run runs in
    omega (arith, t, c, some)

pub apart_inside : (h : ℕ) (runs : List Run) → AreApart h runs → AreBelow h runs
apart_inside h [] apart = tt
apart_inside h (run ∷ runs) (some, low, apart) = (let t = apart_total h runs apart in omega (arith, t, low), apart_inside h runs apart)

pub ends_fit : (h : ℕ) (runs : List Run) → h ≤ 2 ^ 62 → AreBelow h runs → FitRuns runs
ends_fit h [] le all = tt
ends_fit h (run ∷ runs) le all = (let a = all.0 in omega (arith, a, le), ends_fit h runs le all.1)

rows_from : (h from place : ℕ) (runs : List Run) → from ≤ least h runs → AreApart h runs → RowsFitFrom h from place (placed place (joined runs))
rows_from h from place [] le apart = tt
rows_from h from place (run ∷ runs) le (some, low, apart) =
    front_rows h from place run.at run.length (joined runs) le some (let t = apart_total h runs apart in omega (arith, t, low)) (rows_from h (run.at + run.length) (place + run.length) runs low apart)

pub joined_rows : (h : ℕ) (runs : List Run) → AreApart h runs → RowsFitFrom h 0 0 (placed 0 (joined runs))
joined_rows h runs apart = rows_from h 0 0 runs (omega arith) apart

front_few : (at n : ℕ) (runs : List Run) → length (in_front at n runs) ≤ suc (length runs)
front_few at n [] = omega arith
front_few at n (run ∷ runs) = by (at + n == run.at)
  where
    by : (b : Bool) → length (cond b (record { at = at; length = n + run.length } ∷ runs) (record { at = at; length = n } ∷ run ∷ runs)) ≤ suc (suc (length runs))
    by true = omega arith
    by false = omega arith

pub joined_few : (runs : List Run) → length (joined runs) ≤ length runs
joined_few [] = omega arith
joined_few (run ∷ runs) = let f = front_few run.at run.length (joined runs) in let d = joined_few runs in omega (arith, f, d)

-- ---- in the other order

all_push : (h : ℕ) (runs : List Run) (run : Run) → AreBelow h (runs ++ run ∷ []) → AreBelow h runs × (run.at + run.length ≤ h)
all_push h [] run all = (tt, all.0)
all_push h (r ∷ runs) run all = let (front, last) = all_push h runs run all.1 in ((all.0, front), last)

pub ends_back : (h : ℕ) (runs : List Run) → AreBelow h (reverse runs) → AreBelow h runs
ends_back h [] all = tt
ends_back h (run ∷ runs) all = let (front, last) = all_push h (reverse runs) run (subst (AreBelow h) (reverse_onto runs run []) all) in (last, ends_back h runs front)
