-- What the walk has done at a path, by what its calls do to a plan.
--     walked_stays, walked_taken, walked_answered      of the contents there
--     walked_side      of the directory there, where a side decides it.      directory_lefts, walked_grafted, walked_removed      that side
--     walked_alike      where base and right have the same
--     begins_on, begins_behind      what it may go on with.      walked_at, walked_under      both, one after the other
use Rattle.std.proofs.Common.{◌≡◌, ℕ, ◌++◌, ◌∷◌, [], refl, sym, ap, subst, ◌∙◌, Bool, true, false, Option, Some, None}
use Rattle.std.specs.Prelude.{IsFalse, IsTrue, IsSome, is_some}
use Rattle.ip_spec.specs.Map.{get}
use Rattle.ip_spec.specs.Merge.{Rule, IsOneAnswer}
use Rattle.ip_spec.specs.declared.merge.Merged.{Merged}
use Rattle.ip_spec.specs.declared.merge.Merged.TheVariants.{Keep, Conflict}
use Rattle.ip_spec.specs.Path.{Bytes, Path}
use Rattle.ip_spec.specs.View.{View}
use Rattle.ip_spec.specs.declared.record.Record.{Record}
use Rattle.ip_three.specs.Going.{IsLess, IsReady, PlansAt, PlansContents, PlansDirectory, PlansUnder}
use Rattle.ip_three.specs.Merging.{of_left, of_right, contents_side, directory_side, has_directory, is_merged, same_directory, side_by}
use Rattle.ip_three.specs.Planning.{Plan, IsPlan}
use Rattle.ip_three.specs.Walking.{Answers, Begins, BySide, IsEditedBy, IsTaken, TakesContents, Walked, as_plan, as_side}
use Rattle.ip_three.specs.declared.plan.Plan as code
use Rattle.ip_three.specs.declared.side.Side.{Side}
use Rattle.ip_three.specs.declared.side.Side.TheVariants.{Left, Right}
use Rattle.ip_three.proofs.Alike.{alike_plans, neither}
use Rattle.ip_three.proofs.Entries.{AreAlike}
use Rattle.ip_three.proofs.PlanEdits.{taken_more, taken_put, taken_same, with_bytes_is, with_conflict_is, with_gone_is, with_none_is, with_taken_is}
use Rattle.ip_three.proofs.PlanSteps.{contents_conflict, contents_gone, contents_none, contents_put, contents_stay, contents_taken, directory_gone, directory_stays, directory_taken, directory_under, plans_at}

module _ (rule : Rule) (records : ℕ → Option Record) (b l r : View) (path : Path) (old : code.Plan) (begins : Begins rule records b l r old) where
  abbrev Contents : code.Plan → Type 0
  Contents new = Walked (PlansContents rule b l r path) records r old new

  abbrev Directory : code.Plan → Type 0
  Directory new = Walked (PlansDirectory rule b l r path) records r old new

  pub walked_stays : contents_side b l r path ≡ Some of_left → Contents old
  walked_stays side = record { plans = contents_stay rule begins.only b l r path (as_plan old) begins.plan side; taken_there = begins.taken_there }

  module _ (merged : IsTrue (is_merged b l r path)) (less : IsLess path (as_plan old)) (new : code.Plan) where
    contents_are : (p : Plan) → as_plan new ≡ p → PlansContents rule b l r path (as_plan old) p → PlansContents rule b l r path (as_plan old) (as_plan new)
    contents_are p is plans = subst (PlansContents rule b l r path (as_plan old)) (sym is) plans

    pub walked_taken : contents_side b l r path ≡ Some of_right → TakesContents records l r path old new → Contents new
    walked_taken side takes = by (get r.map path) refl
      where
        by : (o : Option Bytes) → get r.map path ≡ o → Contents new
        by None none =
            let e = takes.none none in record {
              plans = contents_are _ (with_none_is l path old new e) (contents_gone rule begins.only b l r path (as_plan old) begins.plan less merged side none);
              taken_there = taken_same records r old new e.come_is begins.taken_there;
            }
        by (Some bytes) is =
            let some : IsSome (get r.map path) = ap is_some is in
            let t = takes.some some in record {
              plans = contents_are _ (with_taken_is records r path old new t) (contents_taken rule begins.only b l r path (as_plan old) begins.plan less merged side some);
              taken_there = taken_more records r path old new t begins.taken_there;
            }

    pub walked_answered : (m : Merged) → contents_side b l r path ≡ None → rule path (get b.map path) (get l.map path) (get r.map path) m → Answers l path m old new → Contents new
    walked_answered (Keep (Some bytes)) none asked e = record {
      plans = contents_are _ (with_bytes_is path bytes old new e) (contents_put rule begins.only b l r path (as_plan old) begins.plan less bytes (merged, none, asked));
      taken_there = taken_put records r path bytes old new e begins.taken_there;
    }
    walked_answered (Keep None) none asked e = record {
      plans = contents_are _ (with_none_is l path old new e) (contents_none rule begins.only b l r path (as_plan old) begins.plan less (merged, none, asked));
      taken_there = taken_same records r old new e.come_is begins.taken_there;
    }
    walked_answered Conflict none asked e = record {
      plans = contents_are _ (with_conflict_is l path old new e) (contents_conflict rule begins.only b l r path (as_plan old) begins.plan less (merged, none, asked));
      taken_there = taken_same records r old new e.come_is begins.taken_there;
    }

  -- ---- the directory there

  pub directory_lefts : directory_side b l r path ≡ Some of_left → Directory old
  directory_lefts side = record { plans = directory_stays rule begins.only b l r path (as_plan old) begins.plan side; taken_there = begins.taken_there }

  pub walked_alike : AreAlike b r path → Walked (PlansAt rule b l r path) records r old old
  walked_alike same = record { plans = alike_plans rule b l r path (as_plan old) begins.plan same; taken_there = begins.taken_there }

  module _ (merged : IsTrue (is_merged b l r path)) (ready : IsReady l r path (as_plan old)) (side : directory_side b l r path ≡ Some of_right) (new : code.Plan) where
    pub walked_grafted : IsTrue (has_directory r.map path) → IsTaken records r path old new → Directory new
    walked_grafted has t = record {
      plans = subst (PlansDirectory rule b l r path (as_plan old)) (sym (with_taken_is records r path old new t)) (directory_taken rule begins.only b l r path (as_plan old) begins.plan ready merged side has);
      taken_there = taken_more records r path old new t begins.taken_there;
    }

    pub walked_removed : IsFalse (has_directory r.map path) → IsEditedBy (λ p. p ++ path ∷ []) (λ es. es) old new → Directory new
    walked_removed none e = record {
      plans = subst (PlansDirectory rule b l r path (as_plan old)) (sym (with_gone_is path old new e)) (directory_gone rule begins.only b l r path (as_plan old) begins.plan ready merged side none (left_has none));
      taken_there = taken_same records r old new e.come_is begins.taken_there;
    }
      where
        not_right : {X : Type 0} → Some of_left ≡ Some of_right → X
        not_right e = cc

        -- else both would have none
        left_has : has_directory r.map path ≡ false → has_directory l.map path ≡ true
        left_has none = by (has_directory l.map path) refl
          where
            by : (x : Bool) → has_directory l.map path ≡ x → has_directory l.map path ≡ true
            by true is = is
            by false is = not_right (sym (ap (λ s. side_by s (same_directory l b path) (same_directory r b path)) (neither l r path is none)) ∙ side)

  -- a side decides it
  pub walked_side : (merged : IsTrue (is_merged b l r path)) (ready : IsReady l r path (as_plan old)) (side : Side) → directory_side b l r path ≡ Some (as_side side) → (new : code.Plan) → BySide records r path side old new → Directory new
  walked_side merged ready Left is new same = subst Directory (sym same) (directory_lefts is)
  walked_side merged ready Right is new takes = by (has_directory r.map path) refl
    where
      by : (x : Bool) → has_directory r.map path ≡ x → Directory new
      by true has = walked_grafted merged ready is new has (takes.some has)
      by false none = walked_removed merged ready is new none (takes.none none)

-- ---- one behind the other

module _ (rule : Rule) (records : ℕ → Option Record) (b l r : View) (path : Path) (old mid : code.Plan) where
  pub begins_on : (Plans : Plan → Plan → Type 0) → Begins rule records b l r old → (Plans (as_plan old) (as_plan mid) → IsPlan rule b l r (as_plan mid)) → Walked Plans records r old mid → Begins rule records b l r mid
  begins_on Plans begins plan walked = record {
    only = begins.only;
    base = begins.base;
    left = begins.left;
    right = begins.right;
    plan = plan walked.plans;
    taken_there = walked.taken_there;
  }

  pub begins_behind : Begins rule records b l r old → Walked (PlansContents rule b l r path) records r old mid → Begins rule records b l r mid
  begins_behind begins walked = begins_on (PlansContents rule b l r path) begins (λ plans. plans.plan) walked

  module _ (new : code.Plan) (contents : Walked (PlansContents rule b l r path) records r old mid) where
    pub walked_at : Walked (PlansDirectory rule b l r path) records r mid new → Walked (PlansAt rule b l r path) records r old new
    walked_at directory = record { plans = plans_at rule b l r path (as_plan old) (as_plan mid) (as_plan new) contents.plans directory.plans; taken_there = directory.taken_there }

    pub walked_under : (only : (p : Path) → IsOneAnswer (rule p)) → directory_side b l r path ≡ None → Walked (PlansUnder rule b l r path) records r mid new → Walked (PlansAt rule b l r path) records r old new
    walked_under only none under = walked_at (record { plans = directory_under rule only b l r path (as_plan mid) (as_plan new) none under.plans; taken_there = under.taken_there })
