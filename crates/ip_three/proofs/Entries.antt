-- The walk through the entries of a directory, one step after the other.
--     Passed path left p      a path under this one, whose first step behind it is none of those that are left
--     begins, goes_next, ends      before the first, from one to the next, and behind the last
--     IsAhead path left plan      all of a plan comes before each of the steps that are left.      ahead_first, ahead_next      so it goes on
--     is_same      at a step at which nothing differs
use Rattle.std.proofs.Common.{◌≡◌, ◌⊎◌, inl, inr, Bool, true, false, cond, List, [], ◌∷◌, ◌++◌, refl, sym, ap, ◌∙◌, append_assoc, Some, None}
use Rattle.std.specs.Prelude.{Contains, IsTrue}
use Rattle.std.specs.FinMap.Entries.{find}
use Rattle.std.specs.Ordering.{is_lt, ordering_then}
use Rattle.std.specs.declared.cmp.Ordering.TheVariants.{Less}
use Rattle.ip_spec.specs.Map.{get}
use Rattle.ip_spec.specs.Merge.{Rule}
use Rattle.ip_spec.specs.Path.{Step, Path, bytes_cmp, path_cmp, same_bytes}
use Rattle.ip_spec.specs.View.{View}
use Rattle.ip_spec.proofs.Subtrees.{same_step, step_itself}
use Rattle.ip_three.specs.Merging.{same_directory}
use Rattle.ip_three.specs.Planning.{Plan, IsPlan}
use Rattle.ip_three.specs.Going.{Plans, IsLess, IsFrom, IsUnder, IsBehind, PlansAt, PlansUnder}
use Rattle.ip_three.proofs.Elements.{contains_rest}
use Rattle.ip_three.proofs.PlanSteps.{goes_both, goes_on_both, goes_on_same, goes_stays, nothing_from}

-- of two paths that part at a step
pub step_less : (path : Path) (s t : Step) (x y : Path) → bytes_cmp s t ≡ Less → IsTrue (is_lt (path_cmp (path ++ s ∷ x) (path ++ t ∷ y)))
step_less [] s t x y less = ap (λ o. is_lt (ordering_then o (path_cmp x y))) less
step_less (k ∷ path) s t x y less = ap (λ o. is_lt (ordering_then o (path_cmp (path ++ s ∷ x) (path ++ t ∷ y)))) (step_itself k) ∙ step_less path s t x y less

-- base and right have the same at the path and under it
abbrev pub AreAlike : View → View → Path → Type 0
AreAlike b r path = (p : Path) → IsFrom path p → (get b.map p ≡ get r.map p) × (same_directory r b p ≡ true)

pub under : (path : Path) (s : Step) (p : Path) → IsFrom (path ++ s ∷ []) p → IsUnder path p
under path s p from = (s, from.0, from.1 ∙ append_assoc path (s ∷ []) from.0)

module _ {V : Type 0} (path : Path) where
  abbrev pub Passed : List (Step × V) → Path → Type 0
  Passed left p = (s : Step) × (rest : Path) × (p ≡ path ++ s ∷ rest) × (find bytes_cmp s left ≡ None)

  pub record IsAhead (left : List (Step × V)) (plan : Plan) : Type 0 where
    pub less : (e : Step × V) → Contains left e → IsLess (path ++ e.0 ∷ []) plan

  module _ (rule : Rule) (b l r : View) where
    abbrev pub PlansPassed : List (Step × V) → Plan → Plan → Type 0
    PlansPassed left old new = Plans rule b l r (Passed left) (Passed left) (IsUnder path) (λ e. IsUnder path e.0) (IsUnder path) old new

    pub begins : (left : List (Step × V)) (plan : Plan) → IsPlan rule b l r plan → ((s : Step) → find bytes_cmp s left ≡ None → AreAlike b r (path ++ s ∷ [])) → PlansPassed left plan plan
    begins left plan is same = record {
      plan = is;
      goes = nothing_from rule b l r path (Passed left) plan (λ p passed. same passed.0 passed.3 p (passed.1, passed.2 ∙ sym (append_assoc path (passed.0 ∷ []) passed.1)));
      goes_on = goes_on_same plan;
    }

    pub goes_next : (e : Step × V) (left : List (Step × V)) (old mid new : Plan) → PlansPassed (e ∷ left) old mid → PlansAt rule b l r (path ++ e.0 ∷ []) mid new → PlansPassed left old new
    goes_next e left old mid new before at = record {
      plan = at.plan;
      goes = goes_both rule b l r (Passed (e ∷ left)) (IsFrom (path ++ e.0 ∷ [])) (Passed (e ∷ left)) (IsFrom (path ++ e.0 ∷ [])) (Passed left) (Passed left) new part part
          (goes_stays rule b l r (Passed (e ∷ left)) (Passed (e ∷ left)) (IsFrom (path ++ e.0 ∷ [])) (IsFrom (path ++ e.0 ∷ [])) (λ c. IsFrom (path ++ e.0 ∷ []) c.0) mid new before.goes at.goes_on) at.goes;
      goes_on = goes_on_both (IsUnder path) (IsFrom (path ++ e.0 ∷ [])) (IsUnder path) (IsUnder path) (IsFrom (path ++ e.0 ∷ [])) (IsUnder path) (λ c. IsUnder path c.0) (λ c. IsFrom (path ++ e.0 ∷ []) c.0) (λ c. IsUnder path c.0) old mid new (λ p u. u)
          (under path e.0) (λ c u. u) (λ c from. under path e.0 c.0 from) (λ p u. u) (under path e.0) before.goes_on at.goes_on;
    }
      where
        part : (p : Path) → Passed left p → Passed (e ∷ left) p ⊎ IsFrom (path ++ e.0 ∷ []) p
        part p (s, rest, is, none) = by (same_bytes s e.0) refl
          where
            by : (x : Bool) → same_bytes s e.0 ≡ x → Passed (e ∷ left) p ⊎ IsFrom (path ++ e.0 ∷ []) p
            by true same = inr (rest, is ∙ ap (λ (k : Step). path ++ k ∷ rest) (same_step s e.0 same) ∙ sym (append_assoc path (e.0 ∷ []) rest))
            by false other = inl (s, rest, is, ap (λ x. cond x (Some e.1) (find bytes_cmp s left)) other ∙ none)

    pub ends : (old new : Plan) → PlansPassed [] old new → PlansUnder rule b l r path old new
    ends old new passed = record {
      plan = passed.plan;
      goes = record {
        asked = λ p u. passed.goes.asked p (u.0, u.1, u.2, refl);
        gone = λ p u. passed.goes.gone p (u.0, u.1, u.2, refl);
        removed = λ p u. passed.goes.removed p (u.0, u.1, u.2, refl);
        put_there = λ p bytes u. passed.goes.put_there p bytes (u.0, u.1, u.2, refl);
        come = λ p u. passed.goes.come p (u.0, u.1, u.2, refl);
        grafted = λ p u. passed.goes.grafted p (u.0, u.1, u.2, refl);
      };
      goes_on = passed.goes_on;
    }

    pub ahead_first : (left : List (Step × V)) (plan : Plan) → IsBehind path plan → IsAhead left plan
    ahead_first left plan behind = record {
      less = λ e m. record {
        gone = λ p g. behind.gone p g e.0 [];
        come = λ c g. behind.come c g e.0 [];
        conflict = λ c g. behind.conflict c g e.0 [];
      };
    }

    pub ahead_next : (e : Step × V) (left : List (Step × V)) (mid new : Plan) → ((d : Step × V) → Contains left d → bytes_cmp e.0 d.0 ≡ Less) → IsAhead (e ∷ left) mid → PlansAt rule b l r (path ++ e.0 ∷ []) mid new → IsAhead left new
    ahead_next e left mid new first ahead at = record {
      less = λ d m. let old = ahead.less d (contains_rest e left d m) in record {
        gone = λ p g. elim (at.goes_on.new_gone p g) [ inl before ↦ old.gone p before | inr from ↦ before_it d m p from ];
        come = λ c g. elim (at.goes_on.new_come c g) [ inl before ↦ old.come c before | inr from ↦ before_it d m c.0 from ];
        conflict = λ c g. elim (at.goes_on.new_conflict c g) [ inl before ↦ old.conflict c before | inr from ↦ before_it d m c from ];
      };
    }
      where
        before_it : (d : Step × V) → Contains left d → (p : Path) → IsFrom (path ++ e.0 ∷ []) p → IsTrue (is_lt (path_cmp p (path ++ d.0 ∷ [])))
        before_it d m p from =
            ap (λ (x : Path). is_lt (path_cmp x (path ++ d.0 ∷ []))) (from.1 ∙ append_assoc path (e.0 ∷ []) from.0) ∙ step_less path e.0 d.0 from.0 [] (first d m)
