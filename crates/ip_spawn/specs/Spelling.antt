-- Numbers as words.
use Rattle.std.specs.Prelude.{◌≡◌, ℕ, ◌<◌, ◌^◌, List, length, slice_index}
use Rattle.std.specs.Str.Parse.{IsNumeral, digits_value}

-- The word is decimal digits of this number, which is below 2 ^ 64, and a zero in front is the whole word.
pub record Spells (word : List ℕ) (n : ℕ) : Type 0 where
  pub digits : IsNumeral 10 word
  pub value : digits_value 10 word ≡ n
  pub fits : n < 2 ^ 64
  pub short : slice_index word 0 ≡ 48 → length word ≡ 1
