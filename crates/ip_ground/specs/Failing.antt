-- Which calls of a ground fail whatever they ask.
--     Refuses result old new          which of those to come do, before and after a call that had this result; 0 is the next one
--     fails_at fails stop number      in memory, the call of this number does
--     failing_from fails stop calls   there, which of those to come do, after so many
use Rattle.std.specs.Prelude.{◌≡◌, ℕ, ◌+◌, ◌-◌, ◌^◌, min, Bool, IsFalse, ◌||◌, ◌==◌, nat_le, List, Option, Some, None, Result, OnOk}
use Rattle.std.specs.List.{list_any}

-- A call that is Ok was none of them, and behind a call each of the others is one nearer.
pub record Refuses {A E : Type 0} (result : Result A E) (old new : ℕ → Bool) : Type 0 where
  pub ok : OnOk result (IsFalse (old 0))
  pub nearer : (n : ℕ) → new n ≡ old (n + 1)

-- its number stands in the list, or is not below the stop
abbrev pub fails_at : List ℕ → Option ℕ → ℕ → Bool
fails_at fails None number = list_any (λ n. n == number) fails
fails_at fails (Some first) number = nat_le first number || list_any (λ n. n == number) fails

-- Numbers go up to 2^64 - 1, which each later call has too.
abbrev pub failing_from : List ℕ → Option ℕ → ℕ → ℕ → Bool
failing_from fails stop calls n = fails_at fails stop (min (calls + n) (2 ^ 64 - 1))
