-- What rules for paths mean. A rule is whatever has a path and a meaning.
--     meanings at means rules      each rule's path with its meaning, in the order of the list
--     Picks at p rules rule      the rule of p: of those whose path is a prefix of p the longest, and of equal paths the last
--     PicksNone at p rules      no rule's path is a prefix of p
--     has_rule at p rules      whether one of the rules is for the path p itself
--     IsAscending at rules      each rule's path comes before those of the rules behind it, so no two are for one path
--     with_rule at rule rules      ascending rules with this one at its place, instead of the one for its path where there is one
--     IsPlace at p rules k      the rule at place k is the one for p
--     IsGap at p rules k      no rule is for p, and one would stand at place k
--     HasOneAnswer means, IsDecisive rule      a meaning that answers any three values in one way alone, and a rule that does so at each path
use Rattle.std.specs.Prelude.{◌≡◌, ◌<◌, ◌≤◌, ℕ, Bool, false, ◌||◌, List, [], ◌∷◌, ◌++◌, length, slice_index_or, All, IsTrue, Option}
use Rattle.std.specs.Ordering.{match_ordering}
use Rattle.std.specs.declared.cmp.Ordering.TheVariants.{Less}
use Rattle.ip_spec.specs.Path.{Bytes, Path, path_cmp, is_prefix, same_path}
use Rattle.ip_spec.specs.Merge.{Meaning, Rule}
use Rattle.ip_spec.specs.declared.merge.Merged.{Merged}

module _ {R : Type 0} (at : R → Path) where
  abbrev pub meanings : (R → Meaning) → List R → List (Path × Meaning)
  meanings means [] = []
  meanings means (rule ∷ rules) = (at rule, means rule) ∷ meanings means rules

  pub record Picks (p : Path) (rules : List R) (rule : R) : Type 0 where
    pub before : List R
    pub after : List R
    pub stands : rules ≡ before ++ rule ∷ after
    pub fits : IsTrue (is_prefix (at rule) p)
    pub longest : All (λ r. IsTrue (is_prefix (at r) p) → length (at r) ≤ length (at rule)) before
    pub last : All (λ r. IsTrue (is_prefix (at r) p) → length (at r) < length (at rule)) after

  abbrev pub PicksNone : Path → List R → Type 0
  PicksNone p rules = All (λ r. is_prefix (at r) p ≡ false) rules

  abbrev pub has_rule : Path → List R → Bool
  has_rule p [] = false
  has_rule p (rule ∷ rules) = same_path (at rule) p || has_rule p rules

  abbrev pub IsAscending : List R → Type 0
  IsAscending rules = (i j : ℕ) (d : R) → i < j → j < length rules → path_cmp (at (slice_index_or rules i d)) (at (slice_index_or rules j d)) ≡ Less

  abbrev pub with_rule : R → List R → List R
  with_rule rule [] = rule ∷ []
  with_rule rule (r ∷ rules) = match_ordering (path_cmp (at rule) (at r)) (rule ∷ r ∷ rules) (rule ∷ rules) (r ∷ with_rule rule rules)

  abbrev pub IsPlace : Path → List R → ℕ → Type 0
  IsPlace p rules k = (k < length rules) × ((d : R) → at (slice_index_or rules k d) ≡ p)

  pub record IsGap (p : Path) (rules : List R) (k : ℕ) : Type 0 where
    pub within : k ≤ length rules
    pub before : (i : ℕ) (d : R) → i < k → path_cmp (at (slice_index_or rules i d)) p ≡ Less
    pub behind : (i : ℕ) (d : R) → k ≤ i → i < length rules → path_cmp p (at (slice_index_or rules i d)) ≡ Less

-- exactly one answer for three values
abbrev pub HasOneAnswer : Meaning → Type 0
HasOneAnswer means = (o a b : Option Bytes) → (r : Merged) × means o a b r × ((s : Merged) → means o a b s → s ≡ r)

-- at each path
abbrev pub IsDecisive : Rule → Type 0
IsDecisive rule = (p : Path) → HasOneAnswer (rule p)
