-- What a search among ascending rules finds, and what an edit there leaves.
use Rattle.std.proofs.Common.{◌≡◌, ◌∙◌, ◌<◌, ◌+◌, ◌-◌, ℕ, zero, suc, Bool, true, false, if◌then◌else◌, ◌||◌, List, [], ◌∷◌, length, get_or, set, Result, Ok, Err, IfOk, IfErr, refl, sym, ap, subst, inl, inr, arith, is_eq}
use Rattle.std.specs.List.{insert}
use Rattle.std.specs.List.Sorted.{IsSearchInRange, IsBinarySearchResult, IsNonDecreasingBy}
use Rattle.std.specs.Ordering.{match_ordering, ordering_index, is_lt}
use Rattle.std.specs.declared.cmp.Ordering.{Ordering}
use Rattle.std.specs.declared.cmp.Ordering.TheVariants.{Less}
use Rattle.std.proofs.lemmas.Bool.{cases_lt}
use Rattle.std.proofs.lemmas.List.Edits.{length-insert, get_or-insert_below, get_or-insert_at, get_or-insert_above}
use Rattle.std.proofs.lemmas.List.Sorted.{searchable_from_sorted}
use Rattle.ip_merge.proofs.PathOrder.{paths_total, path_itself, one_path, greater_than, less_than}
use Rattle.ip_spec.specs.Path.{Path, path_cmp, same_path}
use Rattle.ip_merge.specs.Rules.{IsAscending, IsPlace, IsGap, has_rule, with_rule}

module _ {R : Type 0} (at : R → Path) where
  rises : (p : Path) (rules : List R) → IsAscending at rules → IsNonDecreasingBy (λ r. ordering_index (path_cmp (at r) p)) rules
  rises p rules up = searchable_from_sorted paths_total at rules p (λ k d low below. ap is_lt (greater_than (at (get_or rules k d)) (at (get_or rules (k + 1) d)) (up k (k + 1) d (omega arith) below)))

  -- a binary search by the rules' paths ends at the rule for the path, or where it would stand
  pub searched : (p : Path) (rules : List R) → IsAscending at rules → (found : Result ℕ ℕ) → IsSearchInRange found (length rules) → IsBinarySearchResult (λ r. path_cmp (at r) p) rules found → IfOk found (IsPlace at p rules) × IfErr found (IsGap at p rules)
  searched p rules up (Ok k) within equal = ((within, λ d. one_path (at (get_or rules k d)) p (equal d)), tt)
  searched p rules up (Err k) within parted =
      let parts = parted (rises p rules up) in (
        tt,
        record {
          within = within;
          before = λ i d below. parts.0 i d (omega arith) below;
          behind = λ i d low below. less_than (at (get_or rules i d)) p (parts.1 i d low below);
        },
      )

  -- the facts on a slice that borrows the rules, at the rules themselves
  pub place_in : {p q : Path} {rules lent : List R} {k : ℕ} → p ≡ q → lent ≡ rules → IsPlace at p lent k → IsPlace at q rules k
  place_in {p = p} {rules = rules} {k = k} same_path same_rules place = subst (λ q. IsPlace at q rules k) same_path (subst (λ l. IsPlace at p l k) same_rules place)

  pub gap_in : {p q : Path} {rules lent : List R} {k : ℕ} → p ≡ q → lent ≡ rules → IsGap at p lent k → IsGap at q rules k
  gap_in {p = p} {rules = rules} {k = k} same_path same_rules gap = subst (λ q. IsGap at q rules k) same_path (subst (λ l. IsGap at p l k) same_rules gap)

  none_for : (p : Path) (rules : List R) → ((i : ℕ) (d : R) → i < length rules → same_path (at (get_or rules i d)) p ≡ false) → has_rule at p rules ≡ false
  none_for p [] other = refl
  none_for p (r ∷ rules) other = ap (λ b. b || has_rule at p rules) (other 0 r (omega arith)) ∙ none_for p rules (λ i d below. other (suc i) d (omega arith))

  -- where one would stand there is none
  pub none_in_gap : (p : Path) (rules : List R) (k : ℕ) → IsGap at p rules k → has_rule at p rules ≡ false
  none_in_gap p rules k gap = none_for p rules (λ i d below. elim (cases_lt i k) [
    | inl less ↦ ap is_eq (gap.before i d less)
    | inr more ↦ ap is_eq (greater_than p (at (get_or rules i d)) (gap.behind i d more below))
  ])

  by_order : R → R → List R → Ordering → List R
  by_order rule r rules o = match_ordering o (rule ∷ r ∷ rules) (rule ∷ rules) (r ∷ with_rule at rule rules)

  pub with_found : (rule : R) (rules : List R) (k : ℕ) → IsAscending at rules → IsPlace at (at rule) rules k → with_rule at rule rules ≡ set rules k rule
  unfolding by_order
  with_found rule [] k up place = absurd (omega (arith, place.0))
  with_found rule (r ∷ rules) zero up place = ap (by_order rule r rules) (ap (path_cmp (at rule)) (place.1 rule) ∙ path_itself (at rule))
  with_found rule (r ∷ rules) (suc k) up place =
      let less : path_cmp (at r) (at rule) ≡ Less = ap (path_cmp (at r)) (sym (place.1 rule)) ∙ up 0 (suc k) rule (omega arith) place.0 in
      ap (by_order rule r rules) (greater_than (at r) (at rule) less)
      ∙ ap (λ l. r ∷ l) (with_found rule rules k (λ i j d h below. up (suc i) (suc j) d (omega arith) (omega arith)) (omega (arith, place.0), place.1))

  pub with_new : (rule : R) (rules : List R) (k : ℕ) → IsGap at (at rule) rules k → with_rule at rule rules ≡ insert rules k rule
  unfolding by_order
  with_new rule [] zero gap = refl
  with_new rule [] (suc k) gap = absurd (omega (arith, gap.within))
  with_new rule (r ∷ rules) zero gap = ap (by_order rule r rules) (gap.behind 0 rule (omega arith) (omega arith))
  with_new rule (r ∷ rules) (suc k) gap =
      let less : path_cmp (at r) (at rule) ≡ Less = gap.before 0 rule (omega arith) in
      let rest : IsGap at (at rule) rules k = record {
        within = omega (arith, gap.within);
        before = λ i d below. gap.before (suc i) d (omega arith);
        behind = λ i d low below. gap.behind (suc i) d (omega arith) (omega arith);
      } in
      ap (by_order rule r rules) (greater_than (at r) (at rule) less) ∙ ap (λ l. r ∷ l) (with_new rule rules k rest)

  -- a rule where one would stand leaves them ascending
  ascending_new : (rule : R) (rules : List R) (k : ℕ) → IsAscending at rules → IsGap at (at rule) rules k → IsAscending at (insert rules k rule)
  ascending_new rule rules k up gap i j d h below =
      let new = insert rules k rule in
      let long : j < length rules + 1 = omega (arith, below, length-insert rules k rule gap.within) in
      let under : (n : ℕ) → n < k → get_or new n d ≡ get_or rules n d = λ n less. get_or-insert_below rules k rule d n less gap.within in
      let here : (n : ℕ) → k ≡ n → get_or new n d ≡ rule = λ n same. subst (λ m. get_or new m d ≡ rule) same (get_or-insert_at rules k rule d gap.within) in
      let over : (n : ℕ) → k < n → get_or new n d ≡ get_or rules (n - 1) d = λ n more. subst (λ m. get_or new m d ≡ get_or rules (n - 1) d) {x = n - 1 + 1} (omega arith) (get_or-insert_above rules k rule d (n - 1) (omega arith) gap.within) in
      grind (arith, under i, here i, over i, under j, here j, over j, up i j d, up i (j - 1) d, up (i - 1) (j - 1) d, gap.before i d, gap.behind (j - 1) d)

  -- and so they are, whether there was memory for it or not
  pub ascending_after : (rule : R) (rules new : List R) (k : ℕ) (added : Bool) → IsAscending at rules → IsGap at (at rule) rules k → new ≡ (if added then insert rules k rule else rules) → IsAscending at new
  ascending_after rule rules new k true up gap is = subst (IsAscending at) (sym is) (ascending_new rule rules k up gap)
  ascending_after rule rules new k false up gap is = subst (IsAscending at) (sym is) up
