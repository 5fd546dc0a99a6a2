-- Where each rule means one answer at most, three maps have one merge at most.
use Rattle.std.proofs.Common.{◌≡◌, inl, inr, refl, sym, ap, ◌∙◌, Option, Some, Bool, true, false}
use Rattle.std.specs.Prelude.{IsSome, is_some}
use Rattle.std.specs.Bool.{MatchBool}
use Rattle.std.specs.Ordering.{is_lt, ordering_reverse}
use Rattle.std.specs.declared.cmp.Ordering.{Ordering}
use Rattle.std.specs.declared.cmp.Ordering.TheVariants.{Less, Equal, Greater}
use Rattle.ip_spec.specs.Map.{get, same_map}
use Rattle.ip_spec.specs.Path.{Bytes, Path, path_cmp}
use Rattle.ip_spec.specs.Tree.{Tree}
use Rattle.ip_spec.specs.Merge.{Merged, Keep, Conflict, Meaning, Rule, IsOneAnswer, Outcome, merged, conflict_at, same_value, Decides, Results, Conflicts, Merges, means}
use Rattle.ip_spec.specs.MergeModel.{Merger, value_of}
use Rattle.ip_spec.proofs.TreeLaws.{path_total, path_antisymmetric}

one_decision : (f : Meaning) → IsOneAnswer f → (o a b : Option Bytes) (r s : Merged) → Decides f o a b r → Decides f o a b s → r ≡ s
one_decision f one o a b r s x y = by (same_value a b) (same_value a o) (same_value b o) x y
  where
    by : (equal left right : Bool) → MatchBool equal (r ≡ Keep a) (MatchBool left (r ≡ Keep b) (MatchBool right (r ≡ Keep a) (f o a b r)))
        → MatchBool equal (s ≡ Keep a) (MatchBool left (s ≡ Keep b) (MatchBool right (s ≡ Keep a) (f o a b s))) → r ≡ s
    by true left right x y = x ∙ sym y
    by false true right x y = x ∙ sym y
    by false false true x y = x ∙ sym y
    by false false false x y = one o a b r s x y

no_keep : {X : Type 0} (v : Option Bytes) → Keep v ≡ Conflict → X
no_keep v e = cc

is_there : (o : Option Bytes) (v : Bytes) → o ≡ Some v → IsSome o
is_there o v e = ap is_some e

module _ (rule : Rule) (one : (p : Path) → IsOneAnswer (rule p)) (o a b : Tree) where
  one_result : (p : Path) (r s : Merged) → Results rule o a b p r → Results rule o a b p s → r ≡ s
  one_result p r s x y = one_decision (rule p) (one p) (get o p) (get a p) (get b p) r s x y

  -- where the maps merge no path conflicts
  none_conflicts : (t : Tree) → Merges rule o a b (merged t) → (p : Path) → ¬ (Conflicts rule o a b p)
  none_conflicts t is p (inl c) = no_keep (get t p) (one_result p (Keep (get t p)) Conflict (is.0 p) c)
  none_conflicts t is p (inr (v, w, q, under, apart, here, there)) =
      let at_p = is_there (get t p) v (ap value_of (one_result p (Keep (get t p)) (Keep (Some v)) (is.0 p) here)) in
      let at_q = is_there (get t q) w (ap value_of (one_result q (Keep (get t q)) (Keep (Some w)) (is.0 q) there)) in
      apart (is.1 p q at_p at_q under)

  abbrev LeastConflict : Path → Type 0
  LeastConflict p = Merges rule o a b (conflict_at p)

  one_conflict : (p q : Path) → LeastConflict p → LeastConflict q → p ≡ q
  one_conflict p q x y = by (path_cmp p q) (path_cmp q p) (path_total.antisymm q p) refl refl
    where
      by : (r s : Ordering) → path_cmp q p ≡ ordering_reverse (path_cmp p q) → path_cmp p q ≡ r → path_cmp q p ≡ s → p ≡ q
      by Less s turned e f = absurd (y.1 p (ap is_lt e) x.0)
      by Equal s turned e f = path_antisymmetric p q e
      by Greater s turned e f = absurd (x.1 q (ap is_lt (turned ∙ ap ordering_reverse e)) y.0)

  pub one_outcome : (m n : Outcome) → Merges rule o a b m → Merges rule o a b n → m ≡ n
  one_outcome (merged t) (merged u) x y = ap merged (same_map path_total path_antisymmetric t u (λ p. ap value_of (one_result p (Keep (get t p)) (Keep (get u p)) (x.0 p) (y.0 p))))
  one_outcome (merged t) (conflict_at p) x y = absurd (none_conflicts t x p y.0)
  one_outcome (conflict_at p) (merged t) x y = absurd (none_conflicts t y p x.0)
  one_outcome (conflict_at p) (conflict_at q) x y = ap conflict_at (one_conflict p q x y)

pub one_computed : (f : Path → Merger) (o a b : Tree) (m n : Outcome) → Merges (λ p. means (f p)) o a b m → Merges (λ p. means (f p)) o a b n → m ≡ n
one_computed f o a b m n x y = one_outcome (λ p. means (f p)) (λ p u v w r s e g. e ∙ sym g) o a b m n x y
