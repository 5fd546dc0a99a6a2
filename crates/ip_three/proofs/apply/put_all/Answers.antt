use Rattle.std.proofs.Common.{◌≡◌, [], ◌∷◌, List, ◌++◌, refl, sym, ap, subst, ◌∙◌, append_assoc}
use Rattle.std.proofs.lemmas.List.{append-nil}
use Rattle.ip_tree.specs.TreeView.{IsView}
use Rattle.ip_tree.proofs.CallsOn.{err_causes_on, err_is}
use Rattle.ip_tree.proofs.Looking.{looks_nothing, looks_on, still_over}
use Rattle.ip_three.specs.Applying.{PutsAll, as_edits}
use Rattle.ip_three.specs.Merging.{more}
use Rattle.ip_three.specs.declared.apply.Edit.{Edit}
use Rattle.ip_three.proofs.Putting.{found_here, nil_long, path_here, put_failed, put_more}
use Rattle.ip_three.proofs.apply.put_all.Goals as goal

pub loop-edit-init : goal.loop-edit-init
loop-edit-init g c = ([], c.into_iter-edit-iterator.ensures.into_iter_gives.0, λ tells records v r right over is right_is found. is, looks_nothing _ _ _, refl)

pub loop-edit-preserved : goal.loop-edit-preserved
loop-edit-preserved g c =
    let inv = c.loop-edit.invariant in
    let e : Edit = c.in-Some.edit in
    let left : List Edit = c.next.new.self.rest.items in
    let all : List Edit = c.args.come.items in
    let whole : inv.0 ++ (e ∷ left) ≡ all = ap (λ (l : List Edit). inv.0 ++ l) (sym c.in-Some.ensures.steps.0) ∙ inv.1 in
    let same : c.steps.result.now ≡ e.path = first_of (search (c.steps.ensures, c.path.view_is), cc (c.steps.ensures, c.path.view_is)) in (
      inv.0 ++ e ∷ [],
      append_assoc inv.0 (e ∷ []) left ∙ whole,
      λ tells records v r right over is right_is found.
          put_more records r v inv.0 e left all whole c.steps.result.now same c.put.new.tree
          (c.in_ok-put.ensures.puts tells records (more r v (as_edits inv.0)) r right (still_over _ _ _ _ _ records inv.3 tells over) (inv.2 tells records v r right over is right_is found) right_is
          (path_here records r v inv.0 e left all whole c.steps.result.now same found) (found_here records r v inv.0 e left all whole c.steps.result.now same found)),
      looks_on _ _ _ _ _ _ _ inv.3 c.in_ok-put.ensures.looks,
      c.in_ok-put.ensures.counts ∙ inv.4,
    )

pub returns-in_err-put-clause-puts : goal.returns-in_err-put-clause-puts
returns-in_err-put-clause-puts g c tells records v r right over is right_is found =
    let inv = c.loop-edit.invariant in
    let e : Edit = c.in-Some.edit in
    let left : List Edit = c.next.new.self.rest.items in
    let all : List Edit = c.args.come.items in
    let whole : inv.0 ++ (e ∷ left) ≡ all = ap (λ (l : List Edit). inv.0 ++ l) (sym c.in-Some.ensures.steps.0) ∙ inv.1 in
    let same : c.steps.result.now ≡ e.path = first_of (search (c.steps.ensures, c.path.view_is), cc (c.steps.ensures, c.path.view_is)) in
    err_is (λ o. PutsAll records r v (as_edits all) c.put.new.tree o) c.from_residual.result c.in_err-put.field-0.0 c.from_residual.ensures.1
    (put_failed records r v inv.0 e left all whole c.steps.result.now same c.put.new.tree c.in_err-put.field-0.0
    (c.in_err-put.ensures.puts tells records (more r v (as_edits inv.0)) r right (still_over _ _ _ _ _ records inv.3 tells over) (inv.2 tells records v r right over is right_is found) right_is
    (path_here records r v inv.0 e left all whole c.steps.result.now same found) (found_here records r v inv.0 e left all whole c.steps.result.now same found)))

pub returns-in_err-put-clause-looks : goal.returns-in_err-put-clause-looks
returns-in_err-put-clause-looks g c = looks_on _ _ _ _ _ _ _ c.loop-edit.invariant.3 c.in_err-put.ensures.looks

pub returns-in_err-put-clause-causes : goal.returns-in_err-put-clause-causes
returns-in_err-put-clause-causes g c =
    err_causes_on _ _ _ _ _ c.loop-edit.invariant.3 c.from_residual.result c.in_err-put.field-0.0 c.from_residual.ensures.1 c.in_err-put.ensures.causes

pub returns-clause-puts : goal.returns-clause-puts
returns-clause-puts g c tells records v r right over is right_is found =
    let inv = c.loop-edit.invariant in
    let left : List Edit = c.loop-edit.edit-iterator.rest.items in
    let none : left ≡ [] = nil_long left (sym c.loop-edit.edit-iterator.rest.ok.0 ∙ c.in-None.ensures.steps.0) in
    let whole : inv.0 ≡ c.args.come.items = sym (append-nil inv.0) ∙ ap (λ (l : List Edit). inv.0 ++ l) (sym none) ∙ inv.1 in
    subst (λ (l : List Edit). IsView records c.loop-edit.tree (more r v (as_edits l))) whole (inv.2 tells records v r right over is right_is found)
