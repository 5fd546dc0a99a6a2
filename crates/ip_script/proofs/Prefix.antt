-- The bytes in front of a text that pass a test.
use Rattle.std.proofs.Common.{◌≡◌, ◌⊎◌, inl, inr, ℕ, suc, zero, ◌+◌, ◌<◌, ◌≤◌, Bool, true, false, cond, ◌&&◌, ◌==◌, List, [], ◌∷◌, ◌++◌, length, take, min, refl, ap, ◌∙◌, arith, nat_lt, nat_le, IsTrue}
use Rattle.std.specs.List.{list_all, prefix_len}
use Rattle.std.proofs.lemmas.List.{length-take}
use Rattle.std.proofs.lemmas.Bool.Decides.{nat_tests}
use Rattle.std.proofs.lemmas.Bool.{cases_Bool}

pub pick_true : {A : Type 0} (b : Bool) (x y : A) → b ≡ true → cond b x y ≡ x
pick_true b x y h = ap (λ b. cond b x y) h

pub pick_false : {A : Type 0} (b : Bool) (x y : A) → b ≡ false → cond b x y ≡ y
pick_false b x y h = ap (λ b. cond b x y) h

-- ---- the bytes in front that pass a test

len_step : (p : ℕ → Bool) (x : ℕ) (xs : List ℕ) (b : Bool) → p x ≡ b → prefix_len p (x ∷ xs) ≡ cond b (1 + prefix_len p xs) 0
len_step p x xs b h = ap (λ b. cond b (1 + prefix_len p xs) 0) h

pub prefix_within : (p : ℕ → Bool) (xs : List ℕ) → prefix_len p xs ≤ length xs
prefix_within p [] = omega arith
prefix_within p (x ∷ xs) =
    elim (cases_Bool (p x)) [
      | inl h ↦ omega (arith, len_step p x xs true h, prefix_within p xs)
      | inr h ↦ omega (arith, len_step p x xs false h)
    ]

-- what comes behind does not pass
abbrev pub Stops : (ℕ → Bool) → List ℕ → Type 0
Stops p [] = Unit {0}
Stops p (x ∷ xs) = p x ≡ false

pub and_parts : (a b : Bool) → IsTrue (a && b) → (a ≡ true) × (b ≡ true)
and_parts true b h = (refl, h)
and_parts false b h = absurd (cc)

pub prefix_stops : (p : ℕ → Bool) (v rest : List ℕ) → IsTrue (list_all p v) → Stops p rest → prefix_len p (v ++ rest) ≡ length v
prefix_stops p [] [] h s = refl
prefix_stops p [] (x ∷ rest) h s = len_step p x rest false s
prefix_stops p (y ∷ v) rest h s =
    let parts = and_parts (p y) (list_all p v) h in
    len_step p y (v ++ rest) true parts.0 ∙ (ap (λ n. 1 + n) (prefix_stops p v rest parts.1 s) ∙ omega arith)

pub all_in_prefix : (p : ℕ → Bool) (xs : List ℕ) (n : ℕ) → n ≤ prefix_len p xs → IsTrue (list_all p (take n xs))
all_in_prefix p xs zero h = refl
all_in_prefix p [] (suc n) h = refl
all_in_prefix p (x ∷ xs) (suc n) h =
    elim (cases_Bool (p x)) [
      | inl e ↦ ap (λ b. b && list_all p (take n xs)) e ∙ all_in_prefix p xs n (omega (arith, len_step p x xs true e))
      | inr e ↦ absurd (omega (arith, len_step p x xs false e))
    ]

-- the first byte that does not pass decides
pub prefix_decided : (p : ℕ → Bool) (xs : List ℕ) (k m : ℕ) (more : List ℕ) → min k (prefix_len p xs) < m → m ≤ length xs → min k (prefix_len p (take m xs ++ more)) ≡ min k (prefix_len p xs)
prefix_decided p xs k zero more h l = absurd (omega arith)
prefix_decided p [] k (suc m) more h l = absurd (omega arith)
prefix_decided p (x ∷ xs) zero (suc m) more h l = omega arith
prefix_decided p (x ∷ xs) (suc k) (suc m) more h l =
    elim (cases_Bool (p x)) [
      | inl e ↦ omega (arith, len_step p x xs true e, len_step p x (take m xs ++ more) true e, prefix_decided p xs k m more (omega (arith, len_step p x xs true e)) (omega arith))
      | inr e ↦ omega (arith, len_step p x xs false e, len_step p x (take m xs ++ more) false e)
    ]

-- ---- tests

pub lt_or_ge : (m n : ℕ) → (m < n) ⊎ (n ≤ m)
lt_or_ge m n = elim (tested (nat_le n m) refl) [ inl h ↦ inr (grind (arith, nat_tests)) | inr h ↦ inl (grind (arith, nat_tests)) ]
  where
    tested : (b : Bool) {c : Bool} → c ≡ b → (b ≡ true) ⊎ (b ≡ false)
    tested true e = inl refl
    tested false e = inr refl

pub positive : (n : ℕ) → nat_lt 0 n ≡ true → 0 < n
positive n h = grind (arith, nat_tests)

pub positive_test : (n : ℕ) → 0 < n → nat_lt 0 n ≡ true
positive_test n h = grind (arith, nat_tests)

pub equal_by : (m n : ℕ) → (m == n) ≡ true → m ≡ n
equal_by m n h = grind (arith, nat_tests)

pub length_taken : (n : ℕ) (xs : List ℕ) → n ≤ length xs → length (take n xs) ≡ n
length_taken n xs h = omega (arith, length-take n xs)

pub no_more : (xs : List ℕ) → xs ++ [] ≡ xs
no_more [] = refl
no_more (x ∷ xs) = ap (λ (u : List ℕ). x ∷ u) (no_more xs)

pub none_or_some : (n : ℕ) → (n ≡ 0) ⊎ (0 < n)
none_or_some zero = inl refl
none_or_some (suc n) = inr (omega arith)
