use Rattle.std.proofs.Common.{◌≡◌, ◌∷◌, ◌++◌, [], Option, None, ap, subst, take, refl, ◌∙◌}
use Rattle.std.specs.Prelude.{is_some, option_and_then, option_map, IfSome, IsSome}
use Rattle.ip_space.specs.SpaceView.{records_of}
use Rattle.ip_tree.specs.Finding.{FindsIn, as_node, ref_of, walk_to}
use Rattle.ip_tree.specs.declared.look.Place.{Place}
use Rattle.ip_tree.specs.declared.tree.Root.{Root}
use Rattle.ip_tree.proofs.Descent.{not_nil, nothing_on, step_stands, walk_next, walk_none}
use Rattle.ip_tree.proofs.Found.{root_node, root_stands}
use Rattle.ip_tree.proofs.Looking.{cause_on, looks_nothing, looks_on, still_over}
use Rattle.ip_tree.proofs.tree.Tree.at.Goals as goal

pub loop-step-init : goal.loop-step-init
loop-step-init g c = record {
  place = λ tells records w over is. root_stands records c.args.self.now w _ is c.root_place-place.ensures;
  any = λ tells readable r root. (r, ap ref_of c.root_place-place.ensures ∙ ap (λ (x : Root). ref_of (root_node (λ at. None) x)) root, refl);
  looks = looks_nothing _ _ _;
  counts = refl;
}

pub returns-in-Ok-None-clause-place : goal.returns-in-Ok-None-clause-place
returns-in-Ok-None-clause-place g c tells records w over is =
    let path = c.args.path.now in
    let i = c.loop-step.step-index in
    let s = c.step-item.result in
    let over' = still_over _ _ _ _ _ records c.loop-step.invariant.looks tells over in
    let here = c.loop-step.invariant.place tells records w over is in
    let none = subst (λ (o : Option Place). FindsIn records w (take i path ++ s ∷ []) (option_map as_node o)) c.in-Ok-None.field-0-is (c.in-Ok-None.ensures.place tells records w (take i path) over' is.lawful here.place) in
    (nothing_on path i s c.loop-step-test.true c.step-item.is records w none, not_nil path i s c.loop-step-test.true c.step-item.is)

pub returns-in-Ok-None-clause-part : goal.returns-in-Ok-None-clause-part
returns-in-Ok-None-clause-part g c tells records w over is below =
    let path = c.args.path.now in
    let i = c.loop-step.step-index in
    let s = c.step-item.result in
    let over' = still_over _ _ _ _ _ records c.loop-step.invariant.looks tells over in
    let here = c.loop-step.invariant.place tells records w over is in
    let none = subst (λ (o : Option Place). FindsIn records w (take i path ++ s ∷ []) (option_map as_node o)) c.in-Ok-None.field-0-is (c.in-Ok-None.ensures.place tells records w (take i path) over' is.lawful here.place) in
    nothing_on path i s c.loop-step-test.true c.step-item.is records w none

pub returns-in-Ok-None-clause-any : goal.returns-in-Ok-None-clause-any
returns-in-Ok-None-clause-any g c tells readable r root =
    let inv = c.loop-step.invariant.any tells readable r root in
    let reads = c.loop-step.invariant.looks.reads tells in
    let none = subst (λ (o : Option Place). option_and_then ref_of (option_map as_node o) ≡ walk_to (records_of (g.G.Ground.told c.loop-step.outside) c.loop-step.space) (c.step-item.result ∷ []) inv.0) c.in-Ok-None.field-0-is (c.in-Ok-None.ensures.any tells (reads.readable readable) inv.0 inv.1) in
    walk_none c.args.path.now c.loop-step.step-index c.step-item.result c.loop-step-test.true c.step-item.is _ _ (reads.records readable) r inv.0 inv.2 none

pub returns-in-Ok-None-clause-looks : goal.returns-in-Ok-None-clause-looks
returns-in-Ok-None-clause-looks g c = looks_on _ _ _ _ _ _ _ c.loop-step.invariant.looks c.in-Ok-None.ensures.looks

pub returns-in-Err-clause-place : goal.returns-in-Err-clause-place
returns-in-Err-clause-place g c tells records w over is =
    let over' = still_over _ _ _ _ _ records c.loop-step.invariant.looks tells over in
    c.in-Err.ensures.place tells records w (take c.loop-step.step-index c.args.path.now) over' is.lawful (c.loop-step.invariant.place tells records w over is).place

pub returns-in-Err-clause-part : goal.returns-in-Err-clause-part
returns-in-Err-clause-part g c tells records w over is below =
    let over' = still_over _ _ _ _ _ records c.loop-step.invariant.looks tells over in
    c.in-Err.ensures.place tells records w (take c.loop-step.step-index c.args.path.now) over' is.lawful (c.loop-step.invariant.place tells records w over is).place

pub returns-in-Err-clause-looks : goal.returns-in-Err-clause-looks
returns-in-Err-clause-looks g c = looks_on _ _ _ _ _ _ _ c.loop-step.invariant.looks c.in-Err.ensures.looks

pub returns-in-Err-clause-causes : goal.returns-in-Err-clause-causes
returns-in-Err-clause-causes g c = cause_on _ _ _ _ _ c.loop-step.invariant.looks c.in-Err.fault c.in-Err.ensures.causes

pub loop-step-preserved : goal.loop-step-preserved
loop-step-preserved g c = record {
  place = λ tells records w over is.
      let path = c.args.path.now in
      let i = c.loop-step.step-index in
      let s = c.step-item.result in
      let over' = still_over _ _ _ _ _ records c.loop-step.invariant.looks tells over in
      let here = c.loop-step.invariant.place tells records w over is in
      let next = subst (λ (o : Option Place). FindsIn records w (take i path ++ s ∷ []) (option_map as_node o)) c.in-Ok-Some.field-0-is (c.in-Ok-Some.ensures.place tells records w (take i path) over' is.lawful here.place) in
      step_stands path i s c.loop-step-test.true c.step-item.is records w (as_node c.in-Ok-Some.next) next;
  any = λ tells readable r root.
      let inv = c.loop-step.invariant.any tells readable r root in
      let reads = c.loop-step.invariant.looks.reads tells in
      let there = subst (λ (o : Option Place). option_and_then ref_of (option_map as_node o) ≡ walk_to (records_of (g.G.Ground.told c.loop-step.outside) c.loop-step.space) (c.step-item.result ∷ []) inv.0) c.in-Ok-Some.field-0-is (c.in-Ok-Some.ensures.any tells (reads.readable readable) inv.0 inv.1) in
      let some = subst (λ (o : Option Place). IfSome o (λ (next : Place). IsSome (ref_of (as_node next)))) c.in-Ok-Some.field-0-is (c.in-Ok-Some.ensures.stays (ap is_some inv.1)) in
      walk_next c.args.path.now c.loop-step.step-index c.step-item.result c.loop-step-test.true c.step-item.is _ _ (reads.records readable) r inv.0 inv.2 (ref_of (as_node c.in-Ok-Some.next)) there some;
  looks = looks_on _ _ _ _ _ _ _ c.loop-step.invariant.looks c.in-Ok-Some.ensures.looks;
  counts = c.in-Ok-Some.ensures.counts ∙ c.loop-step.invariant.counts;
}
