-- The sizes that a chunk may have, by the test of one bit.
use Rattle.std.proofs.Common.{inl, inr, ◌≡◌, ◌⊎◌, ℕ, zero, suc, ◌/◌, ◌%◌, ◌<◌, ◌≤◌, ◌^◌, true, eqb, sym, ◌∙◌, ap, subst, arith, lit<}
use Rattle.std.specs.Prelude.{count_ones}
use Rattle.std.specs.Int.{is_power_of_two}
use Rattle.std.proofs.Math.Nat.{pow-le-pow_right}
use Rattle.std.proofs.lemmas.Bool.{cases_eq, cases_lt}
use Rattle.std.proofs.lemmas.Bool.Decides.{nat_tests}
use Rattle.std.proofs.lemmas.Nat.{zero_from_ones, ones_le_self}
use lib.Count.{ones_step}
use Rattle.ip_spawn.specs.Sizes.{IsChunkSize}

one_bit : (d n : ℕ) → n ≤ d → count_ones n ≡ 1 → (k : ℕ) × (n ≡ 2 ^ k)
one_bit zero n le one = absurd (omega (arith, ones_le_self n))
one_bit (suc d) n le one =
    let s = ones_step n in
    elim (cases_eq (n % 2) 1) [
      | inl odd ↦ let half : n / 2 ≡ 0 = zero_from_ones (n / 2) (omega arith) in (0, omega arith)
      | inr even ↦ let rest = one_bit d (n / 2) (omega arith) (omega arith) in (suc rest.0, (let e = rest.1 in omega arith))
    ]

one_of_one : count_ones 1 ≡ 1
one_of_one = let s = ones_step 1 in let none = ones_le_self (1 / 2) in omega arith

ones_of_power : (k : ℕ) → count_ones (2 ^ k) ≡ 1
ones_of_power zero = one_of_one
ones_of_power (suc k) = let s = ones_step (2 ^ suc k) in let half : 2 ^ suc k / 2 ≡ 2 ^ k = omega arith in let even : 2 ^ suc k % 2 ≡ 0 = omega arith in let lower = ap (λ (n : ℕ). count_ones n) half in let rest = ones_of_power k in omega arith

power_below : (j k : ℕ) → j ≤ k → 2 ^ j ≤ 2 ^ k
power_below j k l = pow-le-pow_right {n = 2} (lit< tt) l

pub size_from : (size : ℕ) → 4096 ≤ size → size ≤ 2 ^ 30 → count_ones size ≡ 1 → IsChunkSize size
size_from size least most one =
    let power = one_bit size size (omega arith) one in
    let low : 4096 ≤ 2 ^ power.0 = subst (λ (n : ℕ). 4096 ≤ n) power.1 least in
    let high : 2 ^ power.0 ≤ 2 ^ 30 = subst (λ (n : ℕ). n ≤ 2 ^ 30) power.1 most in
    (power.0, from_low power.0 low, from_high power.0 high, power.1)
  where
    from_low : (k : ℕ) → 4096 ≤ 2 ^ k → 12 ≤ k
    from_low k low = elim (cases_lt k 12) [
      | inl lt ↦ absurd (omega (arith, power_below k 11 (omega arith), low))
      | inr le ↦ le
    ]

    from_high : (k : ℕ) → 2 ^ k ≤ 2 ^ 30 → k ≤ 30
    from_high k high = elim (cases_lt 30 k) [
      | inl lt ↦ absurd (omega (arith, power_below 31 k (omega arith), high))
      | inr le ↦ le
    ]

pub least_of : (size : ℕ) → IsChunkSize size → 4096 ≤ size
least_of size (k, low, high, is) = subst (λ (n : ℕ). 4096 ≤ n) (sym is) (power_below 12 k low)

pub most_of : (size : ℕ) → IsChunkSize size → size ≤ 2 ^ 30
most_of size (k, low, high, is) = subst (λ (n : ℕ). n ≤ 2 ^ 30) (sym is) (power_below k 30 high)

pub one_of : (size : ℕ) → IsChunkSize size → count_ones size ≡ 1
one_of size (k, low, high, is) = ap (λ (n : ℕ). count_ones n) is ∙ ones_of_power k

same : (a b : ℕ) → eqb a b ≡ true → a ≡ b
same a b e = grind (arith, nat_tests)

test_eq : (a b : ℕ) → a ≡ b → eqb a b ≡ true
test_eq a b l = grind (arith, nat_tests)

pub out_of_bounds : (size : ℕ) → IsChunkSize size → (size < 4096) ⊎ ((4096 ≤ size) × (1073741824 < size)) → ⊥
out_of_bounds size is (inl small) = let l = least_of size is in omega (arith, l, small)
out_of_bounds size is (inr (_, large)) = let m = most_of size is in omega (arith, m, large)

-- the test of one bit, within the bounds
pub tested : (size : ℕ) → IsChunkSize size → is_power_of_two size ≡ true
tested size is = test_eq _ _ (one_of size is)

pub from_test : (size : ℕ) → 4096 ≤ size → size ≤ 2 ^ 30 → is_power_of_two size ≡ true → IsChunkSize size
from_test size least most one = size_from size least most (same _ _ one)
