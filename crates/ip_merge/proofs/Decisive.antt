-- A rule that answers any three values in one way alone merges any three maps in one way alone.
--     merger_of      what it computes.      one_answer      it means one answer at most.      some_merge, one_merge      some outcome, and no other
use Rattle.std.proofs.Common.{◌≡◌, inl, inr, refl, sym, subst, ◌∙◌, Option, Some, Bool, true, false}
use Rattle.std.specs.Bool.{MatchBool}
use Rattle.ip_spec.specs.declared.merge.Merged.{Merged}
use Rattle.ip_spec.specs.declared.merge.Merged.TheVariants.{Keep, Conflict}
use Rattle.ip_spec.specs.Map.{get}
use Rattle.ip_spec.specs.Merge.{Meaning, Rule, IsOneAnswer, Outcome, merged, conflict_at, same_value, Decides, Results, Conflicts, Merges, means}
use Rattle.ip_spec.specs.MergeModel.{Merger, merge_of}
use Rattle.ip_spec.specs.Path.{Bytes, Path}
use Rattle.ip_spec.specs.Tree.{Tree}
use Rattle.ip_spec.proofs.MergeLaws.{merges}
use Rattle.ip_spec.proofs.OneMerge.{one_outcome}
use Rattle.ip_merge.specs.Rules.{HasOneAnswer, IsDecisive}

-- what decides goes from one meaning to another that implies it
other_meaning : (f g : Meaning) → ((o a b : Option Bytes) (r : Merged) → f o a b r → g o a b r) → (o a b : Option Bytes) (r : Merged) → Decides f o a b r → Decides g o a b r
other_meaning f g so o a b r is = by (same_value a b) (same_value a o) (same_value b o) is
  where
    by : (equal left right : Bool) → MatchBool equal (r ≡ Keep a) (MatchBool left (r ≡ Keep b) (MatchBool right (r ≡ Keep a) (f o a b r)))
        → MatchBool equal (r ≡ Keep a) (MatchBool left (r ≡ Keep b) (MatchBool right (r ≡ Keep a) (g o a b r)))
    by true left right is = is
    by false true right is = is
    by false false true is = is
    by false false false is = so o a b r is

module _ (rule : Rule) (decides : IsDecisive rule) where
  pub merger_of : Path → Merger
  merger_of p o a b = (decides p o a b).0

  pub one_answer : (p : Path) → IsOneAnswer (rule p)
  one_answer p o a b r s x y = let is = decides p o a b in is.2 r x ∙ sym (is.2 s y)

  abbrev computed : Rule
  computed p = means (merger_of p)

  to_rule : (p : Path) (o a b : Option Bytes) (r : Merged) → computed p o a b r → rule p o a b r
  unfolding merger_of
  to_rule p o a b r is = let d = decides p o a b in subst (rule p o a b) (sym is) d.1

  from_rule : (p : Path) (o a b : Option Bytes) (r : Merged) → rule p o a b r → computed p o a b r
  unfolding merger_of
  from_rule p o a b r is = (decides p o a b).2 r is

  module _ (o a b : Tree) where
    there : (p : Path) (r : Merged) → Results computed o a b p r → Results rule o a b p r
    there p r is = other_meaning (computed p) (rule p) (to_rule p) (get o p) (get a p) (get b p) r is

    back : (p : Path) (r : Merged) → Results rule o a b p r → Results computed o a b p r
    back p r is = other_meaning (rule p) (computed p) (from_rule p) (get o p) (get a p) (get b p) r is

    conflicts : (p : Path) → Conflicts computed o a b p → Conflicts rule o a b p
    conflicts p (inl is) = inl (there p Conflict is)
    conflicts p (inr (v, w, q, under, apart, here, below)) = inr (v, w, q, under, apart, there p (Keep (Some v)) here, there q (Keep (Some w)) below)

    conflicts_back : (p : Path) → Conflicts rule o a b p → Conflicts computed o a b p
    conflicts_back p (inl is) = inl (back p Conflict is)
    conflicts_back p (inr (v, w, q, under, apart, here, below)) = inr (v, w, q, under, apart, back p (Keep (Some v)) here, back q (Keep (Some w)) below)

    ruled : (m : Outcome) → Merges computed o a b m → Merges rule o a b m
    ruled (merged t) is = ((λ p. there p (Keep (get t p)) (is.0 p)), is.1)
    ruled (conflict_at p) is = (conflicts p is.0, λ q before c. is.1 q before (conflicts_back q c))

    pub some_merge : (m : Outcome) × Merges rule o a b m
    some_merge = (merge_of merger_of o a b, ruled (merge_of merger_of o a b) (merges merger_of o a b))

    pub one_merge : (m n : Outcome) → Merges rule o a b m → Merges rule o a b n → m ≡ n
    one_merge m n x y = one_outcome rule one_answer o a b m n x y
