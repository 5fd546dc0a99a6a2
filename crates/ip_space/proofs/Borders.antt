-- Where the files of a space begin.
--     border_low, border_high      the first border from an offset on, up to the horizon and above
use Rattle.std.proofs.Common.{◌≡◌, ℕ, ◌+◌, ◌-◌, ◌*◌, ◌/◌, ◌%◌, ◌<◌, ◌≤◌, suc, inl, inr, refl, arith}
use native.Mathlib.Nat.{suc-mul}
use Rattle.std.proofs.lemmas.Bool.{cases_lt}
use Rattle.std.proofs.lemmas.Nat.{div-add-mod', mod_below, mul-le}
use Rattle.ip_image.specs.declared.layout.Layout.{Layout}
use Rattle.ip_space.specs.Viewed.{BeginsFile, IsBorder}

pub border_low : (layout : Layout) (at : ℕ) → at ≤ layout.horizon → IsBorder layout at layout.horizon
border_low layout at below = record { from = below; begins = inl refl; least = λ other further begins. low other begins }
  where
    low : (other : ℕ) → BeginsFile layout other → layout.horizon ≤ other
    low other (inl is) = omega (arith, is)
    low other (inr more) = let above = more.0 in omega (arith, above)

-- a multiple in reach is no later than the last one
last_first : (size at above other number : ℕ) → 0 < size → above < at + size → at ≤ other → other ≡ number * size → above / size * size ≤ other
last_first size at above other number some reach further is = elim (cases_lt number (above / size)) [
  | inl less ↦
      let more : suc number * size ≤ above / size * size = mul-le (suc number) size (above / size) size less (omega arith) in
      let whole = div-add-mod' above size in
      let next = suc-mul number size in
      absurd (omega (arith, more, whole, next, reach, further, is))
  | inr most ↦
      let fits : above / size * size ≤ number * size = mul-le (above / size) size number size most (omega arith) in
      omega (arith, fits, is)
]

pub border_high : (layout : Layout) (at above : ℕ) → layout.horizon < at → 0 < layout.chunk → above ≡ at + (layout.chunk - 1) → IsBorder layout at (above - above % layout.chunk)
border_high layout at above high some is =
    let whole = div-add-mod' above layout.chunk in
    let rest = mod_below above layout.chunk some in
    let far : above / layout.chunk * layout.chunk ≡ above - above % layout.chunk = omega (arith, whole) in
    record {
      from = omega (arith, rest, is, some);
      begins = inr (omega (arith, rest, is, some, high), above / layout.chunk, omega (arith, far));
      least = λ other further begins. first_of far other further begins;
    }
  where
    first_of : above / layout.chunk * layout.chunk ≡ above - above % layout.chunk → (other : ℕ) → at ≤ other → BeginsFile layout other → above - above % layout.chunk ≤ other
    first_of far other further (inl same) = absurd (omega (arith, same, further, high))
    first_of far other further (inr (after, number, multiple)) =
        let last = last_first layout.chunk at above other number some (omega (arith, is, some)) further multiple in
        omega (arith, far, last)
