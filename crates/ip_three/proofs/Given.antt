-- Contents that the rules of a merge gave.
--     asked_given, given_none, given_merged, given_apart      no side decides their path
--     whole_short      where the root is one side's there are none
--     visits_all      a plan of all under the root visits every other path
--     gives_short, gives_long      whether one is too long, by such a plan
--     short_merge      then none of a merge are too long
use Rattle.std.proofs.Common.{◌≡◌, ◌≢◌, ◌<◌, ◌≤◌, ℕ, Bool, true, false, [], ◌∷◌, ◌++◌, Option, Some, None, refl, sym, ap, subst, ◌∙◌, arith, inl, inr}
use Rattle.std.proofs.lemmas.Bool.{both_ways}
use Rattle.std.specs.Bool.{MatchBool}
use Rattle.std.specs.Prelude.{Contains, IsFalse, IsTrue, is_none, length}
use Rattle.ip_spec.specs.Map.{get}
use Rattle.ip_spec.specs.Merge.{Merges, Rule, merged, same_value}
use Rattle.ip_spec.specs.declared.merge.Merged.TheVariants.{Keep}
use Rattle.ip_spec.specs.Path.{Bytes, Path, Step}
use Rattle.ip_spec.specs.Step.{contents_limit}
use Rattle.ip_spec.specs.Tree.{Tree, ways}
use Rattle.ip_spec.specs.View.{View}
use Rattle.ip_three.specs.Answered.{GivesLong, GivesShort, IsGiven}
use Rattle.ip_three.specs.Going.{IsUnder, PlansUnder}
use Rattle.ip_three.specs.Merging.{Coming, Side, of_left, put, taken, contents_side, decided, directory_side, is_merged, same_directory, side_by}
use Rattle.ip_three.specs.Outcomes.{AreMerging, AreShort}
use Rattle.ip_three.specs.Planning.{Asked, IsComing, Noted, Plan, Visits}
use Rattle.ip_three.proofs.Sides.{root_side, same_is, tests_are}
use Rattle.ip_three.proofs.Values.{kept_value, no_side}
use Rattle.ip_three.proofs.Ways.{above_is}

no_three : (s t u : Bool) → side_by s t u ≡ None → (s ≡ false) × (t ≡ false) × (u ≡ false)
no_three true t u e = no_side _ e
no_three false true u e = no_side _ e
no_three false false true e = no_side _ e
no_three false false false e = (refl, refl, refl)

less_or : (n m : ℕ) → (m < n → ⊥) → n ≤ m
less_or n m apart = omega arith

module _ (rule : Rule) (b l r : View) (are : AreMerging rule b l r) where
  abbrev Given : Path → Bytes → Type 0
  Given p bytes = IsGiven rule b.map l.map r.map p bytes

  pub asked_given : (p : Path) (bytes : Bytes) → Asked rule b l r p (Keep (Some bytes)) → Given p bytes
  asked_given p bytes asked = let apart = no_three _ _ _ (sym (tests_are rule b l r p) ∙ asked.1) in (apart.0, apart.1, apart.2, asked.2)

  given_none : (p : Path) (bytes : Bytes) → Given p bytes → contents_side b l r p ≡ None
  given_none p bytes given = tests_are rule b l r p ∙ (λ i. side_by (given.0 i) (given.1 i) (given.2 i))

  -- what stands under a directory that comes from a side is no rule's
  not_under : (f : Path) (s : Step) (rest : Path) (bytes : Bytes) (side : Side) → directory_side b l r f ≡ Some side → Given (f ++ s ∷ rest) bytes → ⊥
  not_under f s rest bytes side is given = by (same_directory l r f) (same_directory l b f) (same_directory r b f) refl refl refl is
    where
      by : (x y z : Bool) → same_directory l r f ≡ x → same_directory l b f ≡ y → same_directory r b f ≡ z → side_by x y z ≡ Some side → ⊥
      by true y z e g h k = both_ways _ given.0 (same_is _ _ (are.sides f e s rest))
      by false true z e g h k = both_ways _ given.1 (same_is _ _ (are.left_base f g s rest))
      by false false true e g h k = both_ways _ given.2 (same_is _ _ (are.right_base f h s rest))
      by false false false e g h k = no_side side (sym k)

  given_merged : (p : Path) (bytes : Bytes) → Given p bytes → is_merged b l r p ≡ true
  given_merged p bytes given = by (decided b l r (ways p)) refl
    where
      by : (o : Option Side) → decided b l r (ways p) ≡ o → is_merged b l r p ≡ true
      by None e = ap is_none e
      by (Some side) e = let a = above_is b l r p side e in absurd (not_under a.front a.step a.rest bytes side a.here (subst (λ (q : Path). Given q bytes) a.is given))

  given_apart : (p : Path) (bytes : Bytes) → Given p bytes → p ≢ []
  given_apart p bytes given e = no_side of_left (sym (root_side rule b l r are) ∙ ap (contents_side b l r) (sym e) ∙ given_none p bytes given)

  pub whole_short : (side : Side) → directory_side b l r [] ≡ Some side → GivesShort rule b.map l.map r.map
  whole_short side is [] bytes given = absurd (given_apart [] bytes given refl)
  whole_short side is (s ∷ p) bytes given = absurd (not_under [] s p bytes side is given)

  -- ---- by a plan

  module _ (old plan : Plan) (plans : PlansUnder rule b l r [] old plan) where
    under : (p : Path) → p ≢ [] → IsUnder [] p
    under [] apart = absurd (apart refl)
    under (s ∷ p) apart = (s, p, refl)

    pub visits_all : Visits rule b l r (λ p. p ≢ []) plan
    visits_all = record {
      asked = λ p apart merged none. plans.goes.asked p (under p apart) merged none;
      gone = λ p apart is. elim is.1 [
        | inl contents ↦ plans.goes.gone p (under p apart) is.0 contents.0 contents.1
        | inr directory ↦ plans.goes.removed p (under p apart) is.0 directory.0 directory.1 directory.2
      ];
      come = λ p c apart is. comes p c apart is;
    }
      where
        comes : (p : Path) (c : Coming) → p ≢ [] → IsComing rule b l r p c → Contains plan.come (p, c)
        comes p (put bytes) apart is = plans.goes.put_there p bytes (under p apart) is
        comes p taken apart is = elim is.1 [
          | inl contents ↦ plans.goes.come p (under p apart) is.0 contents.0 contents.1
          | inr directory ↦ plans.goes.grafted p (under p apart) is.0 directory.0 directory.1
        ]

    pub gives_short : IsFalse plan.long → GivesShort rule b.map l.map r.map
    gives_short short p bytes given =
        let a = visits_all.asked p (given_apart p bytes given) (given_merged p bytes given) (given_none p bytes given) in
        let same : a.0 ≡ Keep (Some bytes) = are.one p (get b.map p) (get l.map p) (get r.map p) a.0 (Keep (Some bytes)) a.1.2 given.3 in
        let noted : Noted rule b l r plan p (Keep (Some bytes)) = subst (Noted rule b l r plan p) same a.2 in
        less_or _ _ (λ beyond. both_ways plan.long short (noted beyond))

    pub gives_long : IsTrue plan.long → GivesLong rule b.map l.map r.map
    gives_long long = let a = plans.plan.long long in (a.0, a.1, asked_given a.0 a.1 a.2, a.3)

-- where no contents of the sides are too long and the rules give none that are, none of the merge are
pub short_merge : (rule : Rule) (o a b t : Tree) → Merges rule o a b (merged t) → GivesShort rule o a b → AreShort a → AreShort b → AreShort t
short_merge rule o a b t is short left right p bytes here = by (same_value (get a p) (get b p)) (same_value (get a p) (get o p)) (same_value (get b p) (get o p)) refl refl refl (is.0 p)
  where
    by : (x y z : Bool) → same_value (get a p) (get b p) ≡ x → same_value (get a p) (get o p) ≡ y → same_value (get b p) (get o p) ≡ z
        → MatchBool x (Keep (get t p) ≡ Keep (get a p)) (MatchBool y (Keep (get t p) ≡ Keep (get b p)) (MatchBool z (Keep (get t p) ≡ Keep (get a p)) (rule p (get o p) (get a p) (get b p) (Keep (get t p))))) → length bytes ≤ contents_limit
    by true y z e f g k = left p bytes (sym (kept_value _ _ k) ∙ here)
    by false true z e f g k = right p bytes (sym (kept_value _ _ k) ∙ here)
    by false false true e f g k = left p bytes (sym (kept_value _ _ k) ∙ here)
    by false false false e f g k = short p bytes (e, f, g, subst (λ (v : Option Bytes). rule p (get o p) (get a p) (get b p) (Keep v)) here k)
