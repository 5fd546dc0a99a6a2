-- The maximal runs of what is kept.
--     joined kept      runs that touch are one.      AreApart h kept      each has some bytes and ends at or below the next, the last one at or below h
--     least h kept      where they begin, h where there are none
--     IsHeld bytes_at at n      no byte is missing.      AreHeld bytes_at runs      nor of the runs
--     left_of runs      what is still to be joined.      GivesRun old result new      the first of the joined runs is given, or none is left
use Rattle.std.specs.Prelude.{◌≡◌, ◌≢◌, ℕ, ◌+◌, ◌<◌, ◌≤◌, List, [], ◌∷◌, reverse, Option, Some, None}
use Rattle.std.specs.List.{AllByRecursion}
use Rattle.ip_base.specs.declared.limit.TheConstants.{OFFSET_MAX}
use Rattle.ip_image.specs.declared.run.Run.{Run}
use Rattle.ip_image.specs.Collection.{in_front}
use Rattle.ip_space.specs.SpaceView.{AreBelow}
use Rattle.ip_keep.specs.declared.runs.Runs.{Runs}

abbrev pub joined : List Run → List Run
joined [] = []
joined (run ∷ kept) = in_front run.at run.length (joined kept)

abbrev pub least : ℕ → List Run → ℕ
least h [] = h
least h (run ∷ kept) = run.at

abbrev pub AreApart : ℕ → List Run → Type 0
AreApart h [] = Unit {0}
AreApart h (run ∷ kept) = (0 < run.length) × (run.at + run.length ≤ least h kept) × AreApart h kept

-- each ends at an offset
abbrev pub FitRuns : List Run → Type 0
FitRuns runs = AreBelow OFFSET_MAX runs

abbrev pub IsHeld : (ℕ → Option ℕ) → ℕ → ℕ → Type 0
IsHeld bytes_at at n = (k : ℕ) → k < n → bytes_at (at + k) ≢ None

abbrev pub AreHeld : (ℕ → Option ℕ) → List Run → Type 0
AreHeld bytes_at runs = AllByRecursion (λ run. IsHeld bytes_at run.at run.length) runs

-- the slice has the least run last
abbrev pub left_of : Runs → List Run
left_of runs = reverse runs.left.now

abbrev pub GivesRun : List Run → Option Run → List Run → Type 0
GivesRun old None new = (old ≡ []) × (new ≡ [])
GivesRun old (Some run) new = joined old ≡ run ∷ joined new
