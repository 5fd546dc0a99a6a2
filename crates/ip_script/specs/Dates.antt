-- Dates: decimal numbers of 64 bits without a leading zero.
--     next_value value b      what a value comes to by one more digit, if b is one and it fits
--     digits_on value text, value_on value text      how many digits at the front of a text may follow digits of that value, and what they come to
--     date_length text, date_value text      how long the longest date at the front of a text is, and its value
use Rattle.std.specs.Prelude.{ℕ, ◌+◌, ◌-◌, ◌*◌, ◌^◌, ◌==◌, ◌&&◌, nat_le, nat_lt, if◌then◌else◌, [], ◌∷◌, Option, Some, None}
use Rattle.ip_spec.specs.Path.{Bytes}

abbrev pub next_value : ℕ → ℕ → Option ℕ
next_value value b = if nat_le 48 b && nat_le b 57 && nat_lt (value * 10 + (b - 48)) (2 ^ 64) then Some (value * 10 + (b - 48)) else None

abbrev pub digits_on : ℕ → Bytes → ℕ
digits_on value [] = 0
digits_on value (b ∷ text) = elim (next_value value b) [ None ↦ 0 | Some next ↦ 1 + digits_on next text ]

abbrev pub value_on : ℕ → Bytes → ℕ
value_on value [] = value
value_on value (b ∷ text) = elim (next_value value b) [ None ↦ value | Some next ↦ value_on next text ]

-- a zero in front is the whole date
abbrev pub date_length : Bytes → ℕ
date_length [] = 0
date_length (b ∷ text) = if b == 48 then 1 else digits_on 0 (b ∷ text)

abbrev pub date_value : Bytes → ℕ
date_value [] = 0
date_value (b ∷ text) = if b == 48 then 0 else value_on 0 (b ∷ text)
