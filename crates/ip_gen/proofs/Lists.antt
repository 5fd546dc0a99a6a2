-- Elements of lists, and lists that rise.
use Rattle.std.proofs.Common.{◌≡◌, ◌⊎◌, inl, inr, ℕ, zero, suc, List, [], ◌∷◌, refl, sym, ap, ◌∙◌, Bool, true, false, cond, arith}
use Rattle.std.specs.Prelude.{◌↔◌, Contains, IsTrue, filter}
use Rattle.std.specs.Ordering.{nat_cmp}
use Rattle.std.specs.List.Sorted.{IsStrictlyIncreasing}
use Rattle.std.specs.BTreeSet.{BTreeSet, contains}
use Rattle.std.proofs.lemmas.Cmp.{nat_cmp_total}
use Rattle.std.proofs.lemmas.Map.Lookups.{exact_unsigned, btree_set_from_contains}
use Rattle.std.proofs.lemmas.Map.Keys.{sorted_from_strictly_increasing}
use Rattle.std.proofs.lemmas.Map.Views.{btree_set_contains_iff}

-- where an element stands
pub here : {X : Type 0} (x y : X) (xs : List X) → y ≡ x → Contains (y ∷ xs) x
here x y xs e = (zero, omega arith, e)

pub later : {X : Type 0} (x y : X) (xs : List X) → Contains xs x → Contains (y ∷ xs) x
later x y xs (k, low, is) = (suc k, omega (arith, low), is)

pub none : {X A : Type 0} (x : A) → Contains [] x → X
none x (k, low, is) = absurd (omega (arith, low))

pub split : {A : Type 0} (x y : A) (xs : List A) → Contains (y ∷ xs) x → (y ≡ x) ⊎ Contains xs x
split x y xs (zero, low, is) = inl is
split x y xs (suc k, low, is) = inr (k, omega (arith, low), is)

-- what passes stays, and what stays was there
pub filtered : {A : Type 0} (p : A → Bool) (xs : List A) (x : A) → Contains xs x → p x ≡ true → Contains (filter p xs) x
filtered p [] x c t = none x c
filtered p (y ∷ xs) x c t = by (p y) refl (split x y xs c) (λ h. filtered p xs x h t)
  where
    by : (b : Bool) → p y ≡ b → (y ≡ x) ⊎ Contains xs x → (Contains xs x → Contains (filter p xs) x) → Contains (cond b (y ∷ filter p xs) (filter p xs)) x
    by true e (inl is) ih = here x y (filter p xs) is
    by true e (inr h) ih = later x y (filter p xs) (ih h)
    by false e (inl is) ih = let f : false ≡ true = sym e ∙ (ap p is ∙ t) in absurd (cc)
    by false e (inr h) ih = ih h

pub of_filtered : {A : Type 0} (p : A → Bool) (xs : List A) (x : A) → Contains (filter p xs) x → Contains xs x
of_filtered p [] x c = none x c
of_filtered p (y ∷ xs) x c = by (p y) c (of_filtered p xs x)
  where
    by : (b : Bool) → Contains (cond b (y ∷ filter p xs) (filter p xs)) x → (Contains (filter p xs) x → Contains xs x) → Contains (y ∷ xs) x
    by true c ih = pick (split x y (filter p xs) c)
      where
        pick : (y ≡ x) ⊎ Contains (filter p xs) x → Contains (y ∷ xs) x
        pick (inl is) = here x y xs is
        pick (inr h) = later x y xs (ih h)
    by false c ih = later x y xs (ih c)

-- two tests that are true together are one
pub same_test : (b c : Bool) → (IsTrue b → IsTrue c) → (IsTrue c → IsTrue b) → b ≡ c
same_test true c f g = sym (f refl)
same_test false true f g = g refl
same_test false false f g = refl

-- rising lists with the same elements are one list
pub same_rising : (xs ys : List ℕ) → IsStrictlyIncreasing xs → IsStrictlyIncreasing ys → ((at : ℕ) → Contains xs at ↔ Contains ys at) → xs ≡ ys
same_rising xs ys up vp same =
    let s : BTreeSet ℕ = record { keys = xs } in
    let t : BTreeSet ℕ = record { keys = ys } in
    btree_set_from_contains nat_cmp_total s t (sorted_from_strictly_increasing xs up) (sorted_from_strictly_increasing ys vp)
    (λ q.
    let a = btree_set_contains_iff nat_cmp_total exact_unsigned s q in
    let b = btree_set_contains_iff nat_cmp_total exact_unsigned t q in
    same_test (contains nat_cmp s q) (contains nat_cmp t q) (λ h. b.1 ((same q).0 (a.0 h))) (λ h. a.1 ((same q).1 (b.0 h))))
    exact_unsigned
