-- The rule with the longest path is the one that decides, and how it is found.
use Rattle.std.proofs.Common.{◌≡◌, ◌≢◌, ◌<◌, ◌≤◌, ℕ, ◌+◌, suc, Bool, true, false, ◌&&◌, List, [], ◌∷◌, ◌++◌, length, take, drop, get_or, All, IsTrue, Option, IfOk, Result, Ok, Err, refl, sym, ap, subst, ◌∙◌, inl, inr, arith, le-leb, leb}
use Rattle.std.proofs.Math.Seq.{split_at}
use Rattle.std.proofs.lemmas.Bool.{cases_lt}
use Rattle.std.proofs.lemmas.Bool.Decides.{nat_tests}
use Rattle.std.proofs.lemmas.List.{get_or-drop, length-drop, length-take-le}
use Rattle.std.proofs.lemmas.List.Elements.{All-head, All-tail, All-take}
use Rattle.std.specs.declared.cmp.Ordering.TheVariants.{Less, Equal}
use Rattle.ip_merge.proofs.PathOrder.{path_itself, prefix_steps, steps_prefix}
use Rattle.ip_spec.specs.Path.{Bytes, Path, path_cmp, is_prefix}
use Rattle.ip_spec.specs.declared.merge.Merged.{Merged}
use Rattle.ip_spec.specs.Merge.{Meaning, means, longest, better, rule_of, same_merger, same_means, IsOneAnswer}
use Rattle.ip_merge.specs.Rules.{IsAscending, IsPlace, IsGap, meanings, Picks, PicksNone, HasOneAnswer}

false_unless : (b : Bool) → (b ≡ true → ⊥) → b ≡ false
false_unless true h = absurd (h refl)
false_unless false h = refl

less_not_equal : Less ≡ Equal → ⊥
less_not_equal h = cc

-- a merger that computes means what it answers, and nothing else
pub computes : (merger : Option Bytes → Option Bytes → Option Bytes → Merged) → HasOneAnswer (means merger)
computes merger o a b = (merger o a b, refl, λ s is. is)

module _ {R : Type 0} (at : R → Path) (p : Path) where
  abbrev Unfit : R → Type 0
  Unfit r = is_prefix (at r) p ≡ false

  abbrev pub Within : ℕ → R → Type 0
  Within n r = IsTrue (is_prefix (at r) p) → length (at r) ≤ n

  abbrev pub Below : ℕ → R → Type 0
  Below n r = IsTrue (is_prefix (at r) p) → length (at r) < n

  module _ (means : R → Meaning) where
    pub none_means : (best : Path × Meaning) (rules : List R) → PicksNone at p rules → longest p best (meanings at means rules) ≡ best.1
    none_means best [] h = refl
    none_means best (rule ∷ rules) h =
        let unfit : is_prefix (at rule) p ≡ false = All-head Unfit rule rules h in
        let step : Bool → Meaning = λ b. longest p (better (b && leb (length best.0) (length (at rule))) (at rule, means rule) best) (meanings at means rules) in
        ap step unfit ∙ none_means best rules (All-tail Unfit rule rules h)

    abbrev better_rule : Path × Meaning → R → Path × Meaning
    better_rule best r = better (is_prefix (at r) p && leb (length best.0) (length (at r))) (at r, means r) best

    abbrev best_after : Path × Meaning → List R → Path × Meaning
    best_after best [] = best
    best_after best (r ∷ rules) = best_after (better_rule best r) rules

    through : (best : Path × Meaning) (before rest : List R) → longest p best (meanings at means (before ++ rest)) ≡ longest p (best_after best before) (meanings at means rest)
    through best [] rest = refl
    through best (r ∷ before) rest = through (better_rule best r) before rest

    better_within : (n : ℕ) (best : Path × Meaning) (r : R) → length best.0 ≤ n → Within n r → length (better_rule best r).0 ≤ n
    better_within n best r small h =
        elim (is_prefix (at r) p) as (λ b. (IsTrue b → length (at r) ≤ n) → length (better (b && leb (length best.0) (length (at r))) (at r, means r) best).0 ≤ n) [
          | false ↦ λ _. small
          | true ↦ λ within. elim (leb (length best.0) (length (at r))) as (λ b. length (better b (at r, means r) best).0 ≤ n) [ true ↦ within refl | false ↦ small ]
        ] h

    after_within : (n : ℕ) (best : Path × Meaning) (rules : List R) → length best.0 ≤ n → All (Within n) rules → length (best_after best rules).0 ≤ n
    after_within n best [] small h = small
    after_within n best (r ∷ rules) small h = after_within n (better_rule best r) rules (better_within n best r small (All-head (Within n) r rules h)) (All-tail (Within n) r rules h)

    later_stays : (best : Path × Meaning) (r : R) → Below (length best.0) r → (is_prefix (at r) p && leb (length best.0) (length (at r))) ≡ false
    later_stays best r h =
        elim (is_prefix (at r) p) as (λ b. (IsTrue b → length (at r) < length best.0) → (b && leb (length best.0) (length (at r))) ≡ false) [
          | false ↦ λ _. refl
          | true ↦ λ below. let less : length (at r) < length best.0 = below refl in grind (arith, nat_tests)
        ] h

    later_means : (best : Path × Meaning) (rules : List R) → All (Below (length best.0)) rules → longest p best (meanings at means rules) ≡ best.1
    later_means best [] h = refl
    later_means best (r ∷ rules) h =
        let step : Bool → Meaning = λ b. longest p (better b (at r, means r) best) (meanings at means rules) in
        ap step (later_stays best r (All-head (Below (length best.0)) r rules h)) ∙ later_means best rules (All-tail (Below (length best.0)) r rules h)

    chosen : (best : Path × Meaning) (rule : R) (after : List R) → IsTrue (is_prefix (at rule) p) → length best.0 ≤ length (at rule) → All (Below (length (at rule))) after → longest p best (meanings at means (rule ∷ after)) ≡ means rule
    chosen best rule after fits small h =
        let step : Bool → Meaning = λ b. longest p (better b (at rule, means rule) best) (meanings at means after) in
        let yes : (is_prefix (at rule) p && leb (length best.0) (length (at rule))) ≡ true = ap (λ b. b && leb (length best.0) (length (at rule))) fits ∙ le-leb (length best.0) (length (at rule)) small in
        ap step yes ∙ later_means (at rule, means rule) after h

    pub picked_means : (rules : List R) (rule : R) → Picks at p rules rule → rule_of (meanings at means rules) p ≡ means rule
    picked_means rules rule h =
        ap (λ rs. rule_of (meanings at means rs) p) h.stands
        ∙ through ([], same_means) h.before (rule ∷ h.after)
        ∙ chosen (best_after ([], same_means) h.before) rule h.after h.fits (after_within (length (at rule)) ([], same_means) h.before (omega arith) h.longest) h.last

  -- a rule that is picked answers what it means, and so do equal sides where none is
  pub picked_answers : (means : R → Meaning) {E : Type 0} (result : Result Merged E) (rules : List R) (rule : R) → Picks at p rules rule → (o a b : Option Bytes) → IfOk result (λ m. means rule o a b m) → IfOk result (λ m. rule_of (meanings at means rules) p o a b m)
  picked_answers means (Ok m) rules rule h o a b is = subst (λ (f : Meaning). f o a b m) (sym (picked_means means rules rule h)) is
  picked_answers means (Err e) rules rule h o a b is = tt

  pub unpicked_answers : (means : R → Meaning) {E : Type 0} (result : Result Merged E) (rules : List R) → PicksNone at p rules → (o a b : Option Bytes) → IfOk result (λ m. same_means o a b m) → IfOk result (λ m. rule_of (meanings at means rules) p o a b m)
  unpicked_answers means (Ok m) rules h o a b is = subst (λ (f : Meaning). f o a b m) (sym (none_means means ([], same_means) rules h)) is
  unpicked_answers means (Err e) rules h o a b is = tt

  one_longest : (means : R → Meaning) (best : Path × Meaning) (rules : List R) → IsOneAnswer best.1 → All (λ r. IsOneAnswer (means r)) rules → IsOneAnswer (longest p best (meanings at means rules))
  one_longest means best [] h all = h
  one_longest means best (r ∷ rules) h all =
      one_longest means (better_rule means best r) rules
      (elim (is_prefix (at r) p && leb (length best.0) (length (at r))) as (λ b. IsOneAnswer (better b (at r, means r) best).1) [ true ↦ All-head (λ r. IsOneAnswer (means r)) r rules all | false ↦ h ])
      (All-tail (λ r. IsOneAnswer (means r)) r rules all)

  -- where each rule means one answer, so does the rule of each path
  pub one_rule : (means : R → Meaning) (rules : List R) → All (λ r. IsOneAnswer (means r)) rules → IsOneAnswer (rule_of (meanings at means rules) p)
  one_rule means rules all = one_longest means ([], same_means) rules (λ o a b r s e f. e ∙ sym f) all

  decisive_longest : (means : R → Meaning) (best : Path × Meaning) (rules : List R) → HasOneAnswer best.1 → All (λ r. HasOneAnswer (means r)) rules → HasOneAnswer (longest p best (meanings at means rules))
  decisive_longest means best [] h all = h
  decisive_longest means best (r ∷ rules) h all =
      decisive_longest means (better_rule means best r) rules
      (elim (is_prefix (at r) p && leb (length best.0) (length (at r))) as (λ b. HasOneAnswer (better b (at r, means r) best).1) [ true ↦ All-head (λ r. HasOneAnswer (means r)) r rules all | false ↦ h ])
      (All-tail (λ r. HasOneAnswer (means r)) r rules all)

  -- where each rule means one answer and no other, so does the rule of each path
  pub decisive_rule : (means : R → Meaning) (rules : List R) → All (λ r. HasOneAnswer (means r)) rules → HasOneAnswer (rule_of (meanings at means rules) p)
  decisive_rule means rules all = decisive_longest means ([], same_means) rules (computes same_merger) all

  -- no rule's path is longer than all prefixes
  pub none_longer : (rules : List R) → All (Below (length p + 1)) rules
  none_longer rules k d below fits = omega (arith, (prefix_steps (at (get_or rules k d)) p fits).0)

  -- a prefix of this length is the steps up to it
  of_length : (n : ℕ) (r : R) → IsTrue (is_prefix (at r) p) → length (at r) ≡ n → at r ≡ take n p
  of_length n r fits long = (prefix_steps (at r) p fits).1 ∙ ap (λ m. take m p) long

  -- one length less to look up, where no rule is for the prefix of this one
  pub none_of_length : (n : ℕ) (rules : List R) (k : ℕ) → IsGap at (take n p) rules k → All (Below (n + 1)) rules → All (Below n) rules
  none_of_length n rules k gap all i d below fits =
      let r = get_or rules i d in
      let other : length (at r) ≢ n = λ long. elim (cases_lt i k) [
        | inl less ↦ less_not_equal (sym (gap.before i d less) ∙ ap (λ q. path_cmp q (take n p)) (of_length n r fits long) ∙ path_itself (take n p))
        | inr more ↦ less_not_equal (sym (gap.behind i d more below) ∙ ap (path_cmp (take n p)) (of_length n r fits long) ∙ path_itself (take n p))
      ] in
      omega (arith, all i d below fits, other)

  -- the rule for the longest prefix that has one is the rule of the path
  pub longest_picked : (n : ℕ) (rules : List R) (k : ℕ) → n ≤ length p → IsAscending at rules → IsPlace at (take n p) rules k → All (Below (n + 1)) rules → (d : R) → Picks at p rules (get_or rules k d)
  longest_picked n rules k short up place all d =
      let rule = get_or rules k d in
      let own : at rule ≡ take n p = place.1 d in
      let long : length (at rule) ≡ n = ap (λ q. length q) own ∙ length-take-le n p short in
      let shorter : (i : ℕ) (e : R) → k < i → i < length rules → IsTrue (is_prefix (at (get_or rules i e)) p) → length (at (get_or rules i e)) < n = λ i e above below fits.
      let r = get_or rules i e in
      let other : length (at r) ≢ n = λ same. less_not_equal (sym (up k i e above below) ∙ (λ x. path_cmp (place.1 e x) (of_length n r fits same x)) ∙ path_itself (take n p)) in
      omega (arith, all i e below fits, other) in
      record {
        before = take k rules;
        after = drop (suc k) rules;
        stands = split_at rules k d place.0;
        fits = ap (λ q. is_prefix q p) own ∙ steps_prefix n p;
        longest = λ i e below fits. omega (arith, All-take (Below (n + 1)) k rules all i e below fits);
        last = λ i e below fits.
            let there = get_or-drop (suc k) rules i e in
            subst (λ r. length (at r) < length (at rule)) (sym there)
            (subst (λ m. length (at (get_or rules (suc k + i) e)) < m) (sym long)
            (shorter (suc k + i) e (omega arith) (omega (arith, below, length-drop (suc k) rules)) (subst (λ r. IsTrue (is_prefix (at r) p)) there fits)));
      }

  pub none_picked : (rules : List R) → All (Below 0) rules → PicksNone at p rules
  none_picked rules all k d below = false_unless (is_prefix (at (get_or rules k d)) p) (λ fits. omega (arith, all k d below fits))
