-- Steps that ascend: one more in its place, and those that pass a test.
use Rattle.std.proofs.Common.{◌≡◌, ◌≤◌, Bool, true, false, List, [], ◌∷◌, length, ◌+◌, subst, sym, ap, ◌∙◌, refl, arith, filter, true≢false}
use Rattle.std.specs.Prelude.{cond, T, ◌&&◌}
use Rattle.std.specs.Ordering.{is_lt, is_eq}
use Rattle.std.specs.declared.cmp.Ordering.{Ordering}
use Rattle.std.specs.declared.cmp.Ordering.TheVariants.{Less, Equal, Greater}
use Rattle.std.specs.FinMap.Entries.{by_order}
use Rattle.std.specs.FinMap.{nat_cmp-IsAntisymmetric, slice_cmp-IsAntisymmetric}
use Rattle.std.proofs.lemmas.Cmp.{nat_list_cmp_total}
use Rattle.ip_spec.specs.Path.{Step, bytes_cmp}
use Rattle.ip_shape.specs.Shape.{AreSteps, ascend, is_below_all, add}

pub both : (a b : Bool) → T a → T b → T (a && b)
both true b p q = q
both false b p q = p

pub first : (a b : Bool) → T (a && b) → T a
first true b p = tt
first false b p = p

pub second : (a b : Bool) → T (a && b) → T b
second true b p = p
second false b p = absurd p

pub less : (o : Ordering) → T (is_lt o) → o ≡ Less
less Less p = refl
less Equal p = absurd p
less Greater p = absurd p

pub equal : (o : Ordering) → is_eq o ≡ true → o ≡ Equal
equal Less e = absurd (true≢false (sym e))
equal Equal e = refl
equal Greater e = absurd (true≢false (sym e))

pub lt_of : (o : Ordering) → o ≡ Less → T (is_lt o)
lt_of o e = subst (λ r. T (is_lt r)) (sym e) tt

pub same_step : (s t : Step) → bytes_cmp s t ≡ Equal → s ≡ t
same_step s t e = slice_cmp-IsAntisymmetric nat_cmp-IsAntisymmetric s t e

pub below_through : (s t : Step) (ts : List Step) → bytes_cmp s t ≡ Less → T (is_below_all t ts) → T (is_below_all s ts)
below_through s t [] e h = tt
below_through s t (u ∷ us) e h =
    both (is_lt (bytes_cmp s u)) (is_below_all s us)
    (lt_of _ (nat_list_cmp_total.trans s t u e (less _ (first (is_lt (bytes_cmp t u)) (is_below_all t us) h))))
    (below_through s t us e (second (is_lt (bytes_cmp t u)) (is_below_all t us) h))

add_front : (s : Step) (ts : List Step) → T (is_below_all s ts) → add s ts ≡ s ∷ ts
add_front s [] h = refl
add_front s (t ∷ ts) h = ap (λ o. by_order o (s ∷ t ∷ ts) (t ∷ ts) (t ∷ add s ts)) (less _ (first (is_lt (bytes_cmp s t)) (is_below_all s ts) h))

module _ (p : Step → Bool) where
  below_filter : (s : Step) (ts : List Step) → T (is_below_all s ts) → T (is_below_all s (filter p ts))
  below_filter s [] h = tt
  below_filter s (t ∷ ts) h =
      let rest = below_filter s ts (second (is_lt (bytes_cmp s t)) (is_below_all s ts) h) in
      elim (p t) as (λ b. T (is_below_all s (cond b (t ∷ filter p ts) (filter p ts)))) [
        | true ↦ both (is_lt (bytes_cmp s t)) (is_below_all s (filter p ts)) (first (is_lt (bytes_cmp s t)) (is_below_all s ts) h) rest
        | false ↦ rest
      ]

  pub AreSteps-filter : (ss : List Step) → AreSteps ss → AreSteps (filter p ss)
  AreSteps-filter [] h = tt
  AreSteps-filter (s ∷ ss) h =
      let rest = AreSteps-filter ss (second (is_below_all s ss) (ascend ss) h) in
      elim (p s) as (λ b. T (ascend (cond b (s ∷ filter p ss) (filter p ss)))) [
        | true ↦ both (is_below_all s (filter p ss)) (ascend (filter p ss)) (below_filter s ss (first (is_below_all s ss) (ascend ss) h)) rest
        | false ↦ rest
      ]

  module _ (s t : Step) (ts : List Step) (below : T (is_below_all t ts)) (rest : filter p (add s ts) ≡ cond (p s) (add s (filter p ts)) (filter p ts)) where
    kept : Bool → List Step → List Step
    kept b us = cond b (t ∷ us) us

    at_less : bytes_cmp s t ≡ Less → cond (p s) (s ∷ filter p (t ∷ ts)) (filter p (t ∷ ts)) ≡ cond (p s) (add s (filter p (t ∷ ts))) (filter p (t ∷ ts))
    at_less e =
        let all : T (is_below_all s (t ∷ ts)) = both (is_lt (bytes_cmp s t)) (is_below_all s ts) (lt_of _ e) (below_through s t ts e below) in
        ap (λ us. cond (p s) us (filter p (t ∷ ts))) (sym (add_front s (filter p (t ∷ ts)) (below_filter s (t ∷ ts) all)))

    at_equal : bytes_cmp s t ≡ Equal → (b : Bool) → p s ≡ b → cond b (t ∷ filter p ts) (filter p ts) ≡ cond b (add s (cond b (t ∷ filter p ts) (filter p ts))) (cond b (t ∷ filter p ts) (filter p ts))
    at_equal e true h = sym (ap (λ o. by_order o (s ∷ t ∷ filter p ts) (t ∷ filter p ts) (t ∷ add s (filter p ts))) e)
    at_equal e false h = refl

    at_greater : bytes_cmp s t ≡ Greater → (b c : Bool) → filter p (add s ts) ≡ cond c (add s (filter p ts)) (filter p ts)
        → cond b (t ∷ filter p (add s ts)) (filter p (add s ts)) ≡ cond c (add s (cond b (t ∷ filter p ts) (filter p ts))) (cond b (t ∷ filter p ts) (filter p ts))
    at_greater e true true h = ap (λ us. t ∷ us) h ∙ sym (ap (λ o. by_order o (s ∷ t ∷ filter p ts) (t ∷ filter p ts) (t ∷ add s (filter p ts))) e)
    at_greater e true false h = ap (λ us. t ∷ us) h
    at_greater e false true h = h
    at_greater e false false h = h

    by : (o : Ordering) → bytes_cmp s t ≡ o
        → filter p (by_order o (s ∷ t ∷ ts) (t ∷ ts) (t ∷ add s ts)) ≡ cond (p s) (add s (filter p (t ∷ ts))) (filter p (t ∷ ts))
    by Less e = at_less e
    by Equal e =
        let same : p t ≡ p s = ap p (sym (same_step s t e)) in
        subst (λ b. cond b (t ∷ filter p ts) (filter p ts) ≡ cond (p s) (add s (cond b (t ∷ filter p ts) (filter p ts))) (cond b (t ∷ filter p ts) (filter p ts))) (sym same) (at_equal e (p s) refl)
    by Greater e = at_greater e (p t) (p s) rest

  pub filter-add : (s : Step) (ss : List Step) → AreSteps ss → filter p (add s ss) ≡ cond (p s) (add s (filter p ss)) (filter p ss)
  filter-add s [] h = elim (p s) as (λ b. cond b (s ∷ []) [] ≡ cond b (s ∷ []) []) [ true ↦ refl | false ↦ refl ]
  filter-add s (t ∷ ts) h = by s t ts (first (is_below_all t ts) (ascend ts) h) (filter-add s ts (second (is_below_all t ts) (ascend ts) h)) (bytes_cmp s t) refl

pub length-add : (s : Step) (ss : List Step) → (length ss ≤ length (add s ss)) × (length (add s ss) ≤ length ss + 1)
length-add s [] = (omega arith, omega arith)
length-add s (t ∷ ts) =
    let rest = length-add s ts in
    elim (bytes_cmp s t) as (λ o. (length (t ∷ ts) ≤ length (by_order o (s ∷ t ∷ ts) (t ∷ ts) (t ∷ add s ts))) × (length (by_order o (s ∷ t ∷ ts) (t ∷ ts) (t ∷ add s ts)) ≤ length (t ∷ ts) + 1)) [
      | Less ↦ (omega arith, omega arith)
      | Equal ↦ (omega arith, omega arith)
      | Greater ↦ (omega (arith, rest.0), omega (arith, rest.1))
    ]
