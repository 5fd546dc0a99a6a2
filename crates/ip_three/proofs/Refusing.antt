-- Where a merge has a conflict: the lesser of the first that a rule has and of the first clash.
--     Least o P      the least path of some, where there are any.      lesser_least      of two such
--     least_conflict      of all paths that conflict
--     conflict_merges      it is the merge's conflict.      none_conflicts      where there is none, no path conflicts
use Rattle.std.proofs.Common.{◌≡◌, ◌≢◌, [], ◌∷◌, ◌++◌, refl, sym, ap, subst, ◌∙◌, Option, Some, None, Bool, true, false, inl, inr}
use Rattle.std.proofs.lemmas.Bool.{false≢true}
use Rattle.std.proofs.lemmas.List.{append-nil}
use Rattle.std.proofs.lemmas.Option.{none-some}
use Rattle.std.specs.Prelude.{◌⊎◌, is_some, if◌then◌else◌}
use Rattle.std.specs.Ordering.{is_lt}
use Rattle.ip_spec.specs.Merge.{Conflicts, Merges, Results, Rule, conflict_at}
use Rattle.ip_spec.specs.declared.merge.Merged.{Merged}
use Rattle.ip_spec.specs.declared.merge.Merged.TheVariants.{Keep, Conflict}
use Rattle.ip_spec.specs.MergeModel.{is_conflict}
use Rattle.ip_spec.specs.Path.{Bytes, Path, is_prefix, path_cmp}
use Rattle.ip_spec.specs.Tree.{Tree}
use Rattle.ip_spec.specs.View.{View}
use Rattle.ip_spec.proofs.Subtrees.{prefix_of_append}
use Rattle.ip_three.specs.Clashes.{clash_of, lesser}
use Rattle.ip_three.specs.Merging.{directory_side, less}
use Rattle.ip_three.specs.Planning.{IsPlan, Noted, Plan, Visits}
use Rattle.ip_three.specs.Outcomes.{AreMerging}
use Rattle.ip_three.proofs.Clashing.{Nested, complete, sound}
use Rattle.ip_three.proofs.Lying.{Lies, above, beside, lies, no_front, no_prefix, under}
use Rattle.ip_three.proofs.Orders.{not_less_on, not_turned}
use Rattle.ip_three.proofs.Planned.{SideAt, by_contents, by_directory, by_rule, ascends, detects, fits, lefts_root, side_at}
use Rattle.ip_three.proofs.Sides.{asked_result, contents_result, decided_result, one_result}
use Rattle.ip_three.proofs.Standing.{longer}

-- ---- the least of some paths

abbrev pub FoundBy : Path → Option Path → Type 0
FoundBy q o = (d : Path) × (o ≡ Some d) × (is_lt (path_cmp q d) ≡ false)

pub record Least (o : Option Path) (P : Path → Type 0) : Type 0 where
  pub is : (c : Path) → o ≡ Some c → P c
  pub found : (q : Path) → P q → FoundBy q o

not_found : {X : Type 0} (q : Path) → FoundBy q None → X
not_found q f = absurd (none-some f.0 f.1)

found_at : (q p : Path) → FoundBy q (Some p) → is_lt (path_cmp q p) ≡ false
found_at q p f = let e = f.1 in let same : p ≡ f.0 = cc in ap (λ (x : Path). is_lt (path_cmp q x)) same ∙ f.2

module _ (P Q : Path → Type 0) where
  lesser_least : (o u : Option Path) → Least o P → Least u Q → Least (lesser o u) (λ p. P p ⊎ Q p)
  lesser_least None u one other = record {
    is = λ c e. inr (other.is c e);
    found = λ q is. elim is [ inl x ↦ not_found q (one.found q x) | inr y ↦ other.found q y ];
  }
  lesser_least (Some p) None one other = record {
    is = λ c e. inl (one.is c e);
    found = λ q is. elim is [ inl x ↦ one.found q x | inr y ↦ not_found q (other.found q y) ];
  }
  lesser_least (Some p) (Some d) one other = by (is_lt (path_cmp d p)) refl
    where
      by : (x : Bool) → is_lt (path_cmp d p) ≡ x → Least (if x then Some d else Some p) (λ y. P y ⊎ Q y)
      by true less = record {
        is = λ c e. inr (other.is c e);
        found = λ q is. elim is [
          | inl x ↦ (d, refl, not_less_on q p d (found_at q p (one.found q x)) (not_turned d p less))
          | inr y ↦ other.found q y
        ];
      }
      by false apart = record {
        is = λ c e. inl (one.is c e);
        found = λ q is. elim is [
          | inl x ↦ one.found q x
          | inr y ↦ (p, refl, not_less_on q d p (found_at q d (other.found q y)) apart)
        ];
      }

-- ---- of those that conflict

module _ (rule : Rule) (b l r : View) (are : AreMerging rule b l r) (plan : Plan) (is_plan : IsPlan rule b l r plan) (visits : Visits rule b l r (λ p. p ≢ []) plan) (root : directory_side b l r [] ≡ None) where
  abbrev Value : Path → Type 0
  Value p = (v : Bytes) × Results rule b.map l.map r.map p (Keep (Some v))

  abbrev tree_behind : Tree
  tree_behind = (less l plan.gone).map

  abbrev ByRule : Path → Type 0
  ByRule p = Results rule b.map l.map r.map p Conflict

  abbrev ByPaths : Path → Type 0
  ByPaths p = (v w : Bytes) × (q : Path) × (is_prefix p q ≡ true) × (p ≢ q) × Results rule b.map l.map r.map p (Keep (Some v)) × Results rule b.map l.map r.map q (Keep (Some w))

  -- a side has no conflict
  no_side : {X : Type 0} (p : Path) (v : Option Bytes) → Results rule b.map l.map r.map p (Keep v) → ByRule p → X
  no_side p v is conflict = absurd (false≢true (ap is_conflict (one_result rule b l r are p _ _ is conflict)))

  least_rule : Least plan.conflict ByRule
  least_rule = record { is = λ c e. asked_result rule b l r c Conflict (is_plan.conflict c e); found = found }
    where
      noted : (q : Path) (m : Merged) → m ≡ Conflict → Noted rule b l r plan q m → FoundBy q plan.conflict
      noted q Conflict e is = is
      noted q (Keep v) e is = absurd (false≢true (ap is_conflict e))

      found : (q : Path) → ByRule q → FoundBy q plan.conflict
      found q conflict = by (side_at b l r q)
        where
          by : SideAt b l r q → FoundBy q plan.conflict
          by (by_directory side is) = no_side q _ (decided_result rule b l r are q side is) conflict
          by (by_contents side merged is) = no_side q _ (contents_result rule b l r q side is) conflict
          by (by_rule merged none) =
              let a = visits.asked q (λ e. false≢true (ap is_some (sym none ∙ lefts_root rule b l r are plan is_plan visits root q e))) merged none in
              noted q a.0 (one_result rule b l r are q _ _ (asked_result rule b l r q a.0 a.1) conflict) a.2

  least_clash : Least (clash_of tree_behind r plan.come) (Nested tree_behind r Value)
  least_clash = record {
    is = λ c e. sound tree_behind r Value None plan.come (fits rule b l r are plan is_plan visits root) (ascends rule b l r are plan is_plan visits root) (λ a none. absurd (none-some a none)) c e;
    found = λ q n. complete tree_behind r q None plan.come (ascends rule b l r are plan is_plan visits root) (detects rule b l r are plan is_plan visits root q n.0 n.1 n.2 n.3);
  }

  paths_nested : (p : Path) → ByPaths p → Nested tree_behind r Value p
  paths_nested p (v, w, q, prefix, apart, one, other) = by (lies p q)
    where
      at : (rest : Path) → q ≡ p ++ rest → Nested tree_behind r Value p
      at [] e = absurd (apart (sym (append-nil p) ∙ sym e))
      at (s ∷ rest) e = (s, rest, (v, one), (w, subst (λ (x : Path). Results rule b.map l.map r.map x (Keep (Some w))) e other))

      by : Lies p q → Nested tree_behind r Value p
      by (under rest e) = at rest e
      by (above s rest e) = absurd (false≢true (sym (no_front q s rest) ∙ ap (λ (x : Path). is_prefix x q) (sym e) ∙ prefix))
      by (beside e) = absurd (false≢true (sym (no_prefix p q e) ∙ prefix))

  nested_paths : (p : Path) → Nested tree_behind r Value p → ByPaths p
  nested_paths p (s, rest, one, other) = (one.0, other.0, p ++ s ∷ rest, prefix_of_append p (s ∷ rest), (λ e. longer p s rest e), one.1, other.1)

  -- of all paths that conflict
  pub least_conflict : Least (lesser plan.conflict (clash_of tree_behind r plan.come)) (Conflicts rule b.map l.map r.map)
  least_conflict = record {
    is = λ c e. elim (both.is c e) [ inl x ↦ inl x | inr n ↦ inr (nested_paths c n) ];
    found = λ q is. elim is [ inl x ↦ both.found q (inl x) | inr y ↦ both.found q (inr (paths_nested q y)) ];
  }
    where
      both : Least (lesser plan.conflict (clash_of tree_behind r plan.come)) (λ p. ByRule p ⊎ Nested tree_behind r Value p)
      both = lesser_least ByRule (Nested tree_behind r Value) plan.conflict (clash_of tree_behind r plan.come) least_rule least_clash

  -- it is the merge's conflict
  pub conflict_merges : (c : Path) → lesser plan.conflict (clash_of tree_behind r plan.come) ≡ Some c → Merges rule b.map l.map r.map (conflict_at c)
  conflict_merges c e = (least_conflict.is c e, λ q less conflicts. not_before q less (least_conflict.found q conflicts))
    where
      not_before : (q : Path) → is_lt (path_cmp q c) ≡ true → FoundBy q (lesser plan.conflict (clash_of tree_behind r plan.come)) → ⊥
      not_before q less f = false≢true (sym (found_at q c (subst (FoundBy q) e f)) ∙ less)

  pub none_conflicts : lesser plan.conflict (clash_of tree_behind r plan.come) ≡ None → (p : Path) → ¬ (Conflicts rule b.map l.map r.map p)
  none_conflicts e p conflicts = not_found p (subst (FoundBy p) e (least_conflict.found p conflicts))
