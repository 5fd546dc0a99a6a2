-- The elements of a list that has a first one.
use Rattle.std.proofs.Common.{◌≡◌, ℕ, zero, suc, ◌<◌, List, [], ◌∷◌, length, get_or, refl, arith}
use Rattle.std.specs.Prelude.{Contains, ◌⊎◌}
use Rattle.std.proofs.Common.{inl, inr}

module _ {A : Type 0} where
  pub contains_first : (x : A) (xs : List A) → Contains (x ∷ xs) x
  contains_first x xs = (0, omega arith, refl)

  pub contains_rest : (x : A) (xs : List A) (y : A) → Contains xs y → Contains (x ∷ xs) y
  contains_rest x xs y c = let l = c.1 in (suc c.0, omega (arith, l), c.2)

  pub contains_cases : (x : A) (xs : List A) (y : A) → Contains (x ∷ xs) y → (x ≡ y) ⊎ Contains xs y
  contains_cases x xs y c = by c.0 c.1 c.2
    where
      by : (k : ℕ) → k < length (x ∷ xs) → get_or (x ∷ xs) k y ≡ y → (x ≡ y) ⊎ Contains xs y
      by zero l e = inl e
      by (suc k) l e = inr (k, omega (arith, l), e)

  pub contains_none : (y : A) → Contains {X = A} [] y → ⊥
  contains_none y c = let l = c.1 in absurd (omega (arith, l))
