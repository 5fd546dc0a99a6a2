-- What becomes of a path, by the side from which it comes.
--     SameTrees b l r      of two directories in one record each step is the same
--     result_by, by_result      what becomes of a path, by the side of its contents
--     one_result      where a rule means one answer, one thing does
--     result_side      a side's contents, where one has the same, or where a directory above comes from it
--     asked_result, result_asked      its rule's answer, where no side decides it
--     side_merges      where the root comes from a side, that side is the merge
use Rattle.std.proofs.Common.{◌≡◌, [], ◌∷◌, ◌++◌, refl, sym, ap, subst, ◌∙◌, Option, Some, None, Bool, true, false, arith}
use Rattle.std.proofs.lemmas.Bool.{false≢true}
use Rattle.std.specs.Prelude.{is_some}
use Rattle.std.specs.Bool.{MatchBool}
use Rattle.std.specs.Ordering.{is_eq}
use Rattle.ip_spec.specs.Map.{get}
use Rattle.ip_spec.specs.Merge.{Meaning, Merges, Results, Rule, merged, same_value}
use Rattle.ip_spec.specs.declared.merge.Merged.{Merged}
use Rattle.ip_spec.specs.declared.merge.Merged.TheVariants.{Keep}
use Rattle.ip_spec.specs.Path.{Bytes, IsPath, Path, Step}
use Rattle.ip_spec.specs.Tree.{IsTree, Tree, ways}
use Rattle.ip_spec.specs.View.{View}
use Rattle.ip_spec.proofs.Subtrees.{same_step, step_itself}
use Rattle.ip_three.specs.Merging.{Side, of_left, of_right, contents_side, decided, directory_side, first_side, map_of, path_side, same_contents, side_by}
use Rattle.ip_three.specs.Planning.{Asked}
use Rattle.ip_three.specs.Outcomes.{AreMerging}
use Rattle.ip_three.proofs.Values.{not_both_sides}
use Rattle.ip_three.proofs.Ways.{above_is}

same_value_by : (v w : View) (p : Path) (x y : Option Bytes) → get v.map p ≡ x → get w.map p ≡ y → same_contents v w p ≡ same_value x y
same_value_by v w p None None e f = rw (e, f) refl
same_value_by v w p None (Some y) e f = rw (e, f) refl
same_value_by v w p (Some x) None e f = rw (e, f) refl
same_value_by v w p (Some x) (Some y) e f = rw (e, f) refl

same_value_is : (v w : View) (p : Path) → same_contents v w p ≡ same_value (get v.map p) (get w.map p)
same_value_is v w p = same_value_by v w p _ _ refl refl

pub value_same : (x y : Option Bytes) → same_value x y ≡ true → x ≡ y
value_same None None e = refl
value_same None (Some y) e = absurd (false≢true e)
value_same (Some x) None e = absurd (false≢true e)
value_same (Some x) (Some y) e = ap Some (same_step x y e)

pub same_itself : (x : Option Bytes) → same_value x x ≡ true
same_itself None = refl
same_itself (Some x) = ap is_eq (step_itself x)

pub same_is : (x y : Option Bytes) → x ≡ y → same_value x y ≡ true
same_is x y e = ap (same_value x) (sym e) ∙ same_itself x

-- ---- by the tests

abbrev ByTests : Meaning → Option Bytes → Option Bytes → Option Bytes → Bool → Bool → Bool → Merged → Type 0
ByTests means o a b s t u m = MatchBool s (m ≡ Keep a) (MatchBool t (m ≡ Keep b) (MatchBool u (m ≡ Keep a) (means o a b m)))

abbrev pub value_of_side : Option Bytes → Option Bytes → Side → Option Bytes
value_of_side a b of_left = a
value_of_side a b of_right = b

abbrev BySide : Meaning → Option Bytes → Option Bytes → Option Bytes → Option Side → Merged → Type 0
BySide means o a b (Some side) m = m ≡ Keep (value_of_side a b side)
BySide means o a b None m = means o a b m

tests_side : (means : Meaning) (o a b : Option Bytes) (m : Merged) (s t u : Bool) → ByTests means o a b s t u m → BySide means o a b (side_by s t u) m
tests_side means o a b m true t u h = h
tests_side means o a b m false true u h = h
tests_side means o a b m false false true h = h
tests_side means o a b m false false false h = h

side_tests : (means : Meaning) (o a b : Option Bytes) (m : Merged) (s t u : Bool) → BySide means o a b (side_by s t u) m → ByTests means o a b s t u m
side_tests means o a b m true t u h = h
side_tests means o a b m false true u h = h
side_tests means o a b m false false true h = h
side_tests means o a b m false false false h = h

module _ (rule : Rule) (b l r : View) where
  -- what becomes of a path, by the side of its contents
  abbrev pub ByContents : Path → Option Side → Merged → Type 0
  ByContents p side m = BySide (rule p) (get b.map p) (get l.map p) (get r.map p) side m

  pub tests_are : (p : Path) → contents_side b l r p ≡ side_by (same_value (get l.map p) (get r.map p)) (same_value (get l.map p) (get b.map p)) (same_value (get r.map p) (get b.map p))
  tests_are p = λ i. side_by (same_value_is l r p i) (same_value_is l b p i) (same_value_is r b p i)

  pub alike_side : (p : Path) → get l.map p ≡ get r.map p → contents_side b l r p ≡ Some of_left
  alike_side p same = tests_are p ∙ ap (λ s. side_by s (same_value (get l.map p) (get b.map p)) (same_value (get r.map p) (get b.map p))) (same_is _ _ same)

  pub by_result : (p : Path) (m : Merged) → Results rule b.map l.map r.map p m → ByContents p (contents_side b l r p) m
  by_result p m is = subst (λ side. ByContents p side m) (sym (tests_are p)) (tests_side (rule p) (get b.map p) (get l.map p) (get r.map p) m _ _ _ is)

  pub result_by : (p : Path) (m : Merged) → ByContents p (contents_side b l r p) m → Results rule b.map l.map r.map p m
  result_by p m is = side_tests (rule p) (get b.map p) (get l.map p) (get r.map p) m _ _ _ (subst (λ side. ByContents p side m) (tests_are p) is)

  by_map : (p : Path) (side : Side) → value_of_side (get l.map p) (get r.map p) side ≡ get (map_of l r side) p
  by_map p of_left = refl
  by_map p of_right = refl

  -- the contents of that side
  pub contents_result : (p : Path) (side : Side) → contents_side b l r p ≡ Some side → Results rule b.map l.map r.map p (Keep (get (map_of l r side) p))
  contents_result p side is = result_by p _ (subst (λ s. ByContents p s (Keep (get (map_of l r side) p))) (sym is) (ap Keep (sym (by_map p side))))

  pub asked_result : (p : Path) (m : Merged) → Asked rule b l r p m → Results rule b.map l.map r.map p m
  asked_result p m asked = result_by p m (subst (λ s. ByContents p s m) (sym asked.1) asked.2)

  pub rule_result : (p : Path) (m : Merged) → contents_side b l r p ≡ None → Results rule b.map l.map r.map p m → rule p (get b.map p) (get l.map p) (get r.map p) m
  rule_result p m none is = subst (λ s. ByContents p s m) none (by_result p m is)

  -- ---- of directories

  module _ (p : Path) where
    abbrev Tested : Bool → Bool → Bool → Merged → Type 0
    Tested s t u m = ByTests (rule p) (get b.map p) (get l.map p) (get r.map p) s t u m

    sides_alike : (s t u : Bool) → same_value (get l.map p) (get r.map p) ≡ s → get l.map p ≡ get r.map p → Tested s t u (Keep (get l.map p))
    sides_alike true t u is same = refl
    sides_alike false t u is same = absurd (false≢true (sym is ∙ same_is _ _ same))

    left_as_base : (s t u : Bool) → same_value (get l.map p) (get r.map p) ≡ s → same_value (get l.map p) (get b.map p) ≡ t → get l.map p ≡ get b.map p → Tested s t u (Keep (get r.map p))
    left_as_base true t u is is_t same = ap Keep (sym (value_same _ _ is))
    left_as_base false true u is is_t same = refl
    left_as_base false false u is is_t same = absurd (false≢true (sym is_t ∙ same_is _ _ same))

    right_as_base : (s t u : Bool) → same_value (get l.map p) (get b.map p) ≡ t → same_value (get r.map p) (get b.map p) ≡ u → get r.map p ≡ get b.map p → Tested s t u (Keep (get l.map p))
    right_as_base true t u is_t is_u same = refl
    right_as_base false true u is_t is_u same = ap Keep (value_same _ _ is_t ∙ sym same)
    right_as_base false false true is_t is_u same = refl
    right_as_base false false false is_t is_u same = absurd (false≢true (sym is_u ∙ same_is _ _ same))

    alike_by : (side : Side) (s t u : Bool) → side_by s t u ≡ Some side → (s ≡ true → get l.map p ≡ get r.map p) → (t ≡ true → get l.map p ≡ get b.map p) → (u ≡ true → get r.map p ≡ get b.map p)
        → Results rule b.map l.map r.map p (Keep (get (map_of l r side) p))
    alike_by of_left true t u is x y z = sides_alike _ _ _ refl (x refl)
    alike_by of_right true t u is x y z = not_both_sides is
    alike_by of_right false true u is x y z = left_as_base _ _ _ refl refl (y refl)
    alike_by of_left false true u is x y z = not_both_sides (sym is)
    alike_by of_left false false true is x y z = right_as_base _ _ _ refl refl (z refl)
    alike_by of_right false false true is x y z = not_both_sides is
    alike_by side false false false is x y z = absurd (false≢true (ap is_some is))

  -- ---- where the trees can be merged

  module _ (are : AreMerging rule b l r) where
    -- what stands under a directory that comes from a side
    pub under_result : (f : Path) (s : Step) (rest : Path) (side : Side) → directory_side b l r f ≡ Some side → Results rule b.map l.map r.map (f ++ s ∷ rest) (Keep (get (map_of l r side) (f ++ s ∷ rest)))
    under_result f s rest side is = alike_by (f ++ s ∷ rest) side _ _ _ is (λ e. are.sides f e s rest) (λ e. are.left_base f e s rest) (λ e. are.right_base f e s rest)

    pub decided_result : (p : Path) (side : Side) → decided b l r (ways p) ≡ Some side → Results rule b.map l.map r.map p (Keep (get (map_of l r side) p))
    decided_result p side is =
        let a = above_is b l r p side is in
        subst (λ (x : Path). Results rule b.map l.map r.map x (Keep (get (map_of l r side) x))) (sym a.is) (under_result a.front a.step a.rest side a.here)

    pub side_result : (p : Path) (side : Side) → path_side b l r p ≡ Some side → Results rule b.map l.map r.map p (Keep (get (map_of l r side) p))
    side_result p side is = by (decided b l r (ways p)) refl is
      where
        by : (o : Option Side) → decided b l r (ways p) ≡ o → first_side o (contents_side b l r p) ≡ Some side → Results rule b.map l.map r.map p (Keep (get (map_of l r side) p))
        by None none e = contents_result p side e
        by (Some x) is_x e = decided_result p side (is_x ∙ e)

    pub one_result : (p : Path) (m n : Merged) → Results rule b.map l.map r.map p m → Results rule b.map l.map r.map p n → m ≡ n
    one_result p m n x y = by (contents_side b l r p) (by_result p m x) (by_result p n y)
      where
        by : (o : Option Side) → ByContents p o m → ByContents p o n → m ≡ n
        by (Some side) e f = e ∙ sym f
        by None e f = are.one p (get b.map p) (get l.map p) (get r.map p) m n e f

    -- the root has no contents
    no_path : IsPath [] → ⊥
    no_path is = let some = is.some in absurd (omega (arith, some))

    root_none : (t : Tree) → IsTree t → get t [] ≡ None
    root_none t is = by (get t []) refl
      where
        by : (o : Option Bytes) → get t [] ≡ o → get t [] ≡ None
        by None e = e
        by (Some x) e = absurd (no_path (is.paths [] (ap is_some e)))

    pub left_root : get l.map [] ≡ None
    left_root = root_none l.map are.left

    pub right_root : get r.map [] ≡ None
    right_root = root_none r.map are.right

    pub root_side : contents_side b l r [] ≡ Some of_left
    root_side = alike_side [] (left_root ∙ sym right_root)

    pub map_tree : (side : Side) → IsTree (map_of l r side)
    map_tree of_left = are.left
    map_tree of_right = are.right

    -- where the root comes from a side, that side is the merge
    pub side_merges : (side : Side) → directory_side b l r [] ≡ Some side → Merges rule b.map l.map r.map (merged (map_of l r side))
    side_merges side is = (each, (map_tree side).prefix_free)
      where
        same_root : (x : Side) → get (map_of l r x) [] ≡ get l.map []
        same_root of_left = refl
        same_root of_right = right_root ∙ sym left_root

        each : (p : Path) → Results rule b.map l.map r.map p (Keep (get (map_of l r side) p))
        each [] = subst (λ v. Results rule b.map l.map r.map [] (Keep v)) (sym (same_root side)) (contents_result [] of_left root_side)
        each (s ∷ p) = under_result [] s p side is
