-- The map of a merge: how long its contents are.
--     short_merged      none are too long where those of the sides are not, and none that a rule gave.      long_merged      one that a rule gave is too long
--     longest_short, longest_long      the greatest length.      made_map      the map of the view that was made
use Rattle.std.proofs.Common.{◌≡◌, ℕ, ◌<◌, ◌≤◌, Bool, true, false, List, [], ◌∷◌, length, Option, Some, refl, sym, ◌∙◌, ap, subst, arith}
use Rattle.std.specs.Prelude.{max, fold, cond}
use Rattle.std.specs.Bool.{MatchBool}
use Rattle.std.specs.List.{AllByRecursion}
use Rattle.std.specs.Ordering.{eq_by_cmp}
use Rattle.std.specs.FinMap.Entries as E
use Rattle.ip_spec.specs.declared.merge.Merged.TheVariants.{Keep}
use Rattle.ip_spec.specs.Map.{get}
use Rattle.ip_spec.specs.Merge.{Rule, IsOneAnswer, Merges, merged, same_value}
use Rattle.ip_spec.specs.MergeModel.{value_of}
use Rattle.ip_spec.specs.Path.{Bytes, Path, path_cmp}
use Rattle.ip_spec.specs.Step.{contents_limit, longest_value}
use Rattle.ip_spec.specs.Tree.{Tree}
use Rattle.ip_spec.specs.View.{View}
use Rattle.ip_spec.proofs.TreeLaws.{path_total}
use Rattle.ip_spec.proofs.Naming.{Member, here, there, member_found}
use Rattle.ip_save.specs.Batches.{HasShortContents}
use Rattle.ip_three.specs.Merging.{Side, of_left, of_right, map_of}
use Rattle.ip_three.specs.Answered.{GivesShort, GivesLong, MergedView, whole, edited, whole_view}

-- ---- the greatest length

abbrev longer : ℕ → Path × Bytes → ℕ
longer n e = max n (length e.1)

no_less : (es : List (Path × Bytes)) (n : ℕ) → n ≤ fold longer n es
no_less [] n = omega arith
no_less (e ∷ es) n = let later = no_less es (max n (length e.1)) in omega (arith, later)

at_most : (es : List (Path × Bytes)) (n k : ℕ) → n ≤ k → AllByRecursion (λ (e : Path × Bytes). length e.1 ≤ k) es → fold longer n es ≤ k
at_most [] n k low all = low
at_most (e ∷ es) n k low all = let low_here = all.0 in at_most es (max n (length e.1)) k (omega (arith, low, low_here)) all.1

found_low : (es : List (Path × Bytes)) (n : ℕ) (p : Path) (bytes : Bytes) → E.find path_cmp p es ≡ Some bytes → length bytes ≤ fold longer n es
found_low [] n p bytes is = absurd (cc (is))
found_low (e ∷ es) n p bytes is = by (eq_by_cmp path_cmp p e.0) is (found_low es (max n (length e.1)) p bytes)
  where
    by : (b : Bool) → cond b (Some e.1) (E.find path_cmp p es) ≡ Some bytes → (E.find path_cmp p es ≡ Some bytes → length bytes ≤ fold longer (max n (length e.1)) es) → length bytes ≤ fold longer (max n (length e.1)) es
    by true found later = let same : e.1 ≡ bytes = cc (found) in let low = no_less es (max n (length e.1)) in let size = ap length same in omega (arith, low, size)
    by false found later = later found

each_member : (P : Path × Bytes → Type 0) (es : List (Path × Bytes)) → ((e : Path × Bytes) → Member e es → P e) → AllByRecursion P es
each_member P [] all = tt
each_member P (e ∷ es) all = (all e here, each_member P es (λ x among. all x (there among)))

pub longest_short : (t : Tree) → HasShortContents t → longest_value t ≤ contents_limit
longest_short t short = at_most t.entries 0 contents_limit (omega arith) (each_member (λ e. length e.1 ≤ contents_limit) t.entries (λ e among. short e.0 e.1 (member_found path_cmp path_total t.entries e t.sorted among)))

pub longest_long : (t : Tree) (p : Path) (bytes : Bytes) → get t p ≡ Some bytes → contents_limit < length bytes → contents_limit < longest_value t
longest_long t p bytes is long = let low = found_low t.entries 0 p bytes is in omega (arith, low, long)

-- ---- what a merge has

kept : (v w : Option Bytes) → Keep v ≡ Keep w → v ≡ w
kept v w is = ap value_of is

module _ (rule : Rule) (o a b t : Tree) (merges : Merges rule o a b (merged t)) where
  pub short_merged : HasShortContents a → HasShortContents b → GivesShort rule o a b → HasShortContents t
  short_merged left right given p bytes is =
      by (same_value (get a p) (get b p)) (same_value (get a p) (get o p)) (same_value (get b p) (get o p)) refl refl refl (merges.0 p)
    where
      by : (x y z : Bool) → same_value (get a p) (get b p) ≡ x → same_value (get a p) (get o p) ≡ y → same_value (get b p) (get o p) ≡ z
          → MatchBool x (Keep (get t p) ≡ Keep (get a p)) (MatchBool y (Keep (get t p) ≡ Keep (get b p)) (MatchBool z (Keep (get t p) ≡ Keep (get a p)) (rule p (get o p) (get a p) (get b p) (Keep (get t p)))))
          → length bytes ≤ contents_limit
      by true y z e f g same = left p bytes (sym (kept (get t p) (get a p) same) ∙ is)
      by false true z e f g same = right p bytes (sym (kept (get t p) (get b p) same) ∙ is)
      by false false true e f g same = left p bytes (sym (kept (get t p) (get a p) same) ∙ is)
      by false false false e f g answer = given p bytes (e, f, g, subst (λ v. rule p (get o p) (get a p) (get b p) (Keep v)) is answer)

  pub long_merged : ((p : Path) → IsOneAnswer (rule p)) → GivesLong rule o a b → contents_limit < longest_value t
  long_merged one (p, bytes, (e, f, g, answer), long) = longest_long t p bytes (by (same_value (get a p) (get b p)) (same_value (get a p) (get o p)) (same_value (get b p) (get o p)) e f g (merges.0 p)) long
    where
      by : (x y z : Bool) → x ≡ false → y ≡ false → z ≡ false
          → MatchBool x (Keep (get t p) ≡ Keep (get a p)) (MatchBool y (Keep (get t p) ≡ Keep (get b p)) (MatchBool z (Keep (get t p) ≡ Keep (get a p)) (rule p (get o p) (get a p) (get b p) (Keep (get t p)))))
          → get t p ≡ Some bytes
      by true y z e f g same = absurd (cc (e))
      by false true z e f g same = absurd (cc (f))
      by false false true e f g same = absurd (cc (g))
      by false false false e f g this = kept (get t p) (Some bytes) (one p (get o p) (get a p) (get b p) (Keep (get t p)) (Keep (Some bytes)) this answer)

-- ---- the view

side_map : (l r : View) (side : Side) → (whole_view l r side).map ≡ map_of l r side
side_map l r of_left = refl
side_map l r of_right = refl

pub made_map : (b l r : View) (t : Tree) (v : View) → MergedView b l r t v → v.map ≡ t
made_map b l r t v (whole side is same) = side_map l r side ∙ sym same
made_map b l r t v (edited gone come none edits) = refl
