-- The height of a part by its entries, and by those at each place.
--     highest es      one more than the greatest height of the entries.      height_is_highest      that of the part
--     tallest f i n      the greatest of those of so many parts, from an index on.      tallest_is_highest      of the children of a part
use Rattle.std.proofs.Common.{◌≡◌, ◌≢◌, ℕ, zero, suc, ◌+◌, ◌<◌, ◌≤◌, max, [], ◌∷◌, refl, sym, ap, ◌∙◌, cond, inl, inr, arith}
use Rattle.std.specs.Prelude.{◌==◌, fold}
use Rattle.std.proofs.lemmas.Bool.{eq-eqb, ne_eqb}
use Rattle.ip_spec.specs.Path.{Step}
use Rattle.ip_spec.specs.Tree.{Tree, height}
use Rattle.ip_spec.specs.Shape.{Entries, at_place, height_of_part, place}
use Rattle.ip_shape.proofs.Ways.{same_or_not}
use Rattle.ip_tree.proofs.PartRecords.{place_small}

abbrev pub highest : Entries → ℕ
highest [] = 0
highest (x ∷ xs) = max (suc (height x.1)) (highest xs)

highest_from : (xs : Entries) (most : ℕ) → fold (λ n (e : Step × Tree). max n (suc (height e.1))) most xs ≡ max most (highest xs)
highest_from [] most = omega arith
highest_from (x ∷ xs) most = let rest = highest_from xs (max most (suc (height x.1))) in omega (arith, rest)

pub height_is_highest : (es : Entries) → height_of_part es ≡ highest es
height_is_highest es = let whole = highest_from es 0 in omega (arith, whole)

abbrev pub tallest : (ℕ → Entries) → ℕ → ℕ → ℕ
tallest f i zero = 0
tallest f i (suc n) = max (highest (f i)) (tallest f (suc i) n)

-- one part has one entry more
module _ (f g : ℕ → Entries) (k h : ℕ) (here : highest (f k) ≡ max h (highest (g k))) (apart : (i : ℕ) → k ≢ i → highest (f i) ≡ highest (g i)) where
  behind : (n i : ℕ) → k < i → tallest f i n ≡ tallest g i n
  behind zero i above = refl
  behind (suc n) i above =
      let rest = behind n (suc i) (omega (arith, above)) in
      let same = apart i (λ e. omega (arith, e, above)) in
      omega (arith, rest, same)

  among : (n i : ℕ) → i ≤ k → k < i + n → tallest f i n ≡ max h (tallest g i n)
  among zero i low high = absurd (omega (arith, low, high))
  among (suc n) i low high = elim (same_or_not k i) [
    | inl same ↦
        let rest = behind n (suc i) (omega (arith, same)) in
        let one = ap (λ j. highest (f j)) (sym same) ∙ here ∙ ap (λ j. max h (highest (g j))) same in
        omega (arith, rest, one)
    | inr other ↦
        let rest = among n (suc i) (omega (arith, low, other)) (omega (arith, high)) in
        let one = apart i other in
        omega (arith, rest, one)
  ]

at_first : (depth i : ℕ) (e : Step × Tree) (es : Entries) → at_place depth i (e ∷ es) ≡ cond (place e.0 depth == i) (e ∷ at_place depth i es) (at_place depth i es)
unfolding at_place
at_first depth i e es = refl

at_none : (depth i : ℕ) → at_place {C = Tree} depth i [] ≡ []
unfolding at_place
at_none depth i = refl

none_tall : (depth n i : ℕ) → tallest (λ j. at_place depth j []) i n ≡ 0
none_tall depth zero i = refl
none_tall depth (suc n) i = let rest = none_tall depth n (suc i) in let one = ap highest (at_none depth i) in omega (arith, rest, one)

pub tallest_is_highest : (depth : ℕ) (es : Entries) (n : ℕ) → n ≡ 32 → tallest (λ i. at_place depth i es) 0 n ≡ highest es
tallest_is_highest depth [] n all = none_tall depth n 0
tallest_is_highest depth (e ∷ es) n all =
    let k = place e.0 depth in
    let rest = tallest_is_highest depth es n all in
    let one =
    among (λ i. at_place depth i (e ∷ es)) (λ i. at_place depth i es) k (suc (height e.1))
    (ap highest (at_first depth k e es) ∙ ap (λ b. highest (cond b (e ∷ at_place depth k es) (at_place depth k es))) (eq-eqb k k refl))
    (λ i other. ap highest (at_first depth i e es) ∙ ap (λ b. highest (cond b (e ∷ at_place depth i es) (at_place depth i es))) (ne_eqb k i other))
    n 0 (omega arith) (omega (arith, all, place_small e.0 depth)) in
    one ∙ ap (max (suc (height e.1))) rest
