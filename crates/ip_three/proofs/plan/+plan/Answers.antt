use Rattle.std.proofs.Common.{◌≡◌, ◌<◌, [], ◌∷◌, List, option_map, length, refl, sym, ap, subst, ◌∙◌, false, arith}
use Rattle.ip_spec.specs.Path.{Path, Step}
use Rattle.ip_spec.specs.View.{is_nil}
use Rattle.ip_tree.specs.Finding.{as_node}
use Rattle.ip_tree.proofs.CallsOn.{err_causes_on}
use Rattle.ip_tree.proofs.KindsPut.{sorted_in}
use Rattle.ip_tree.proofs.Looking.{causes_on, looks_on, still_over}
use Rattle.ip_tree.proofs.Walk.{err_is, match_ok}
use Rattle.ip_differ.specs.declared.pairs.Pair.{Pair}
use Rattle.ip_three.specs.Walking.{as_plan, as_side}
use Rattle.ip_three.proofs.Alike.{alike_stored}
use Rattle.ip_three.proofs.Between.{Between, begins_next, entries_at, first_between, last_between, next_at, ready_next}
use Rattle.ip_three.proofs.PlanSteps.{contents_ready, ready_behind}
use Rattle.ip_three.proofs.PlanWalks.{begins_behind, walked_alike, walked_at, walked_side, walked_under}
use Rattle.ip_three.proofs.Ways.{below_merged}
use Rattle.ip_three.proofs.plan.+plan.Goals as goal

some_step : (p : Path) → 0 < length p → is_nil p ≡ false
some_step [] some = absurd (omega (arith, some))
some_step (s ∷ p) some = refl

-- ---- through the entries

pub plan_entries-returns-in-Err-clause-planned : goal.plan_entries-returns-in-Err-clause-planned
plan_entries-returns-in-Err-clause-planned g t c tells records b l r over view base right merged begins behind = c.in-Err.ensures.pairs tells records b r c.args.path.now c.args.path.now over base right

pub plan_entries-loop-step-init : goal.plan_entries-loop-step-init
plan_entries-loop-step-init g t c = record {
  next = tt;
  finite = tt;
  between = λ tells records b l r over view base right merged begins behind.
      let rule = g.D.Decides.rule c.args.rules.now in
      let path = c.args.path.now in
      let places = c.args.places.now in
      let plan = c.args.plan.now in
      let gives = c.into_iter-step-iterator.ensures.into_iter_gives in
      subst (λ (es : List (Step × Pair)). Between rule records b l r path places.base places.right plan es c.args.left.now plan) (sym gives.0)
      (first_between rule records b l r path places.base places.right plan c.in-Ok.pairs.entries c.args.left.now (sorted_in c.in-Ok.pairs gives.5) (c.in-Ok.ensures.pairs tells records b r path path over base right) view begins behind);
  looks = c.differing.ensures.looks;
  counts = c.in-Ok.ensures.counts;
}

pub plan_entries-returns-in_err-plan_step-clause-planned : goal.plan_entries-returns-in_err-plan_step-clause-planned
plan_entries-returns-in_err-plan_step-clause-planned g t c tells records b l r over view base right merged begins behind =
    let rule = g.D.Decides.rule c.args.rules.now in
    let path = c.args.path.now in
    let places = c.args.places.now in
    let old = c.args.plan.now in
    let e : Step × Pair = (c.in-Some.step.now, c.in-Some.pair.now) in
    let left = c.next.new.self in
    let tree = c.loop-step.left in
    let mid = c.loop-step.plan in
    let before =
    subst (λ (es : List (Step × Pair)). Between rule records b l r path places.base places.right old es tree mid) c.in-Some.ensures.steps
    (c.loop-step.invariant.between tells records b l r over view base right merged begins behind) in
    let below = c.places_in-below.result in
    let ready =
    ready_next rule records b l r path places.base places.right old e left tree mid before c.deref.result.now (c.deref.ensures.value ∙ c.in_ok-at.ensures) (option_map as_node below.base) (option_map as_node below.right) c.places_in-below.ensures.base
    c.places_in-below.ensures.right merged in
    err_is c.from_residual-in_err-plan_step.result c.in_err-plan_step.field-0.0 c.from_residual-in_err-plan_step.ensures.1 _ _
    (c.in_err-plan_step.ensures.planned tells records b l r (still_over _ _ _ _ _ records c.loop-step.invariant.looks tells over) before.view ready.in_base ready.in_right ready.merged
    (begins_next rule records b l r path places.base places.right old e left tree mid before begins) ready.less)

pub plan_entries-returns-in_err-plan_step-clause-looks : goal.plan_entries-returns-in_err-plan_step-clause-looks
plan_entries-returns-in_err-plan_step-clause-looks g t c = looks_on _ _ _ _ _ _ _ c.loop-step.invariant.looks c.plan_step.ensures.looks

pub plan_entries-returns-in_err-plan_step-clause-causes : goal.plan_entries-returns-in_err-plan_step-clause-causes
plan_entries-returns-in_err-plan_step-clause-causes g t c =
    err_causes_on _ _ _ _ _ c.loop-step.invariant.looks c.from_residual-in_err-plan_step.result c.in_err-plan_step.field-0.0 c.from_residual-in_err-plan_step.ensures.1 c.in_err-plan_step.ensures.causes

pub plan_entries-loop-step-preserved : goal.plan_entries-loop-step-preserved
plan_entries-loop-step-preserved g t c = record {
  next = tt;
  finite = tt;
  between = λ tells records b l r over view base right merged begins behind.
      let rule = g.D.Decides.rule c.args.rules.now in
      let path = c.args.path.now in
      let places = c.args.places.now in
      let old = c.args.plan.now in
      let e : Step × Pair = (c.in-Some.step.now, c.in-Some.pair.now) in
      let left = c.next.new.self in
      let tree = c.loop-step.left in
      let mid = c.loop-step.plan in
      let before =
      subst (λ (es : List (Step × Pair)). Between rule records b l r path places.base places.right old es tree mid) c.in-Some.ensures.steps
      (c.loop-step.invariant.between tells records b l r over view base right merged begins behind) in
      let below = c.places_in-below.result in
      let is = c.deref.ensures.value ∙ c.in_ok-at.ensures in
      let ready =
      ready_next rule records b l r path places.base places.right old e left tree mid before c.deref.result.now is (option_map as_node below.base) (option_map as_node below.right) c.places_in-below.ensures.base
      c.places_in-below.ensures.right merged in
      let after =
      c.in_ok-plan_step.ensures.planned tells records b l r (still_over _ _ _ _ _ records c.loop-step.invariant.looks tells over) before.view ready.in_base ready.in_right ready.merged
      (begins_next rule records b l r path places.base places.right old e left tree mid before begins) ready.less in
      next_at rule records b l r path places.base places.right old e left tree mid before c.deref.result.now is c.plan_step.new.left c.plan_step.new.plan after.0 after.1;
  looks = looks_on _ _ _ _ _ _ _ c.loop-step.invariant.looks c.plan_step.ensures.looks;
  counts = c.in_ok-plan_step.ensures.counts ∙ c.loop-step.invariant.counts;
}

pub plan_entries-returns-clause-planned : goal.plan_entries-returns-clause-planned
plan_entries-returns-clause-planned g t c tells records b l r over view base right merged begins behind =
    let rule = g.D.Decides.rule c.args.rules.now in
    let path = c.args.path.now in
    let places = c.args.places.now in
    let old = c.args.plan.now in
    last_between rule records b l r path places.base places.right old c.loop-step.left c.loop-step.plan
    (subst (λ (es : List (Step × Pair)). Between rule records b l r path places.base places.right old es c.loop-step.left c.loop-step.plan) c.in-None.ensures.steps.0
    (c.loop-step.invariant.between tells records b l r over view base right merged begins behind))

-- ---- at a path

pub plan_step-returns-then-is_one_place-clause-planned : goal.plan_step-returns-then-is_one_place-clause-planned
plan_step-returns-then-is_one_place-clause-planned g t c tells records b l r over view base right merged begins less =
    let path = c.args.path.now in
    (view, walked_alike (g.D.Decides.rule c.args.rules.now) records b l r path c.args.plan.now begins (alike_stored b r path (c.is_one_place.ensures records r b path right base c.if-is_one_place.true)))

pub plan_step-returns-in_err-side-clause-planned : goal.plan_step-returns-in_err-side-clause-planned
plan_step-returns-in_err-side-clause-planned g t c tells records b l r over view base right merged begins less =
    let loaded = c.load_path.ensures.same tells records l over view in
    err_is c.from_residual-in_err-side.result c.in_err-side.field-0.0 c.from_residual-in_err-side.ensures.1 _ _
    (c.in_err-side.ensures.planned tells records b l r (still_over _ _ _ _ _ records c.load_path.ensures.looks tells over) loaded.0 (some_step c.args.path.now c.requires) base right merged begins less)

pub plan_step-returns-in_err-side-clause-looks : goal.plan_step-returns-in_err-side-clause-looks
plan_step-returns-in_err-side-clause-looks g t c = looks_on _ _ _ _ _ _ _ c.load_path.ensures.looks c.plan_place.ensures.looks

pub plan_step-returns-in_err-side-clause-causes : goal.plan_step-returns-in_err-side-clause-causes
plan_step-returns-in_err-side-clause-causes g t c = err_causes_on _ _ _ _ _ c.load_path.ensures.looks c.from_residual-in_err-side.result c.in_err-side.field-0.0 c.from_residual-in_err-side.ensures.1 c.in_err-side.ensures.causes

pub plan_step-returns-in_err-plan_directory-in-Some-clause-looks : goal.plan_step-returns-in_err-plan_directory-in-Some-clause-looks
plan_step-returns-in_err-plan_directory-in-Some-clause-looks g t c = looks_on _ _ _ _ _ _ _ c.load_path.ensures.looks c.plan_place.ensures.looks

pub plan_step-returns-in_ok-plan_directory-in-Some-clause-planned : goal.plan_step-returns-in_ok-plan_directory-in-Some-clause-planned
plan_step-returns-in_ok-plan_directory-in-Some-clause-planned g t c tells records b l r over view base right merged begins less =
    let rule = g.D.Decides.rule c.args.rules.now in
    let path = c.args.path.now in
    let old = c.args.plan.now in
    let mid = c.plan_place.new.plan in
    let new = c.plan_directory.new.plan in
    let some = some_step path c.requires in
    let loaded = c.load_path.ensures.same tells records l over view in
    let placed = c.in_ok-side.ensures.planned tells records b l r (still_over _ _ _ _ _ records c.load_path.ensures.looks tells over) loaded.0 some base right merged begins less in
    let side = sym placed.0 ∙ ap (option_map as_side) c.in-Some.is in
    let ready = contents_ready rule begins.only b l r path (as_plan old) (as_plan mid) less placed.1.plans in (
      loaded.0,
      walked_at rule records b l r path old mid new placed.1
          (walked_side rule records b l r path mid (begins_behind rule records b l r path old mid begins placed.1) merged ready c.in-Some.side side new (c.in_ok-plan_directory-in-Some.ensures records r some right)),
    )

pub plan_step-returns-in_ok-plan_directory-in-Some-clause-looks : goal.plan_step-returns-in_ok-plan_directory-in-Some-clause-looks
plan_step-returns-in_ok-plan_directory-in-Some-clause-looks g t c = looks_on _ _ _ _ _ _ _ c.load_path.ensures.looks c.plan_place.ensures.looks

pub plan_step-returns-in-None-clause-planned : goal.plan_step-returns-in-None-clause-planned
plan_step-returns-in-None-clause-planned g t c tells records b l r over view base right merged begins less =
    let rule = g.D.Decides.rule c.args.rules.now in
    let path = c.args.path.now in
    let old = c.args.plan.now in
    let mid = c.plan_place.new.plan in
    let some = some_step path c.requires in
    let loaded = c.load_path.ensures.same tells records l over view in
    let over' = still_over _ _ _ _ _ records c.load_path.ensures.looks tells over in
    let placed = c.in_ok-side.ensures.planned tells records b l r over' loaded.0 some base right merged begins less in
    let none = sym placed.0 ∙ ap (option_map as_side) c.in-None.is in
    let ready = contents_ready rule begins.only b l r path (as_plan old) (as_plan mid) less placed.1.plans in
    match_ok c.plan_entries.result _ _ _ (λ x under. (under.0, walked_under rule records b l r path old mid c.plan_entries.new.plan placed.1 begins.only none under.1))
    (c.plan_entries.ensures.planned tells records b l r (still_over _ _ _ _ _ records c.plan_place.ensures.looks tells over') loaded.0 (entries_at records b path (option_map as_node c.args.places.now.base) base) (entries_at records r path (option_map as_node c.args.places.now.right) right)
    (λ s. below_merged b l r path s merged none) (begins_behind rule records b l r path old mid begins placed.1) (ready_behind rule b l r path (as_plan mid) ready))

pub plan_step-returns-in-None-clause-looks : goal.plan_step-returns-in-None-clause-looks
plan_step-returns-in-None-clause-looks g t c = looks_on _ _ _ _ _ _ _ (looks_on _ _ _ _ _ _ _ c.load_path.ensures.looks c.plan_place.ensures.looks) c.plan_entries.ensures.looks

pub plan_step-returns-in-None-clause-causes : goal.plan_step-returns-in-None-clause-causes
plan_step-returns-in-None-clause-causes g t c = causes_on _ _ _ _ _ (looks_on _ _ _ _ _ _ _ c.load_path.ensures.looks c.plan_place.ensures.looks) c.plan_entries.result c.plan_entries.ensures.causes
