use Rattle.std.proofs.Common.{[], List, ap, sym, subst, ◌∙◌}
use Rattle.ip_spec.specs.Path.{Path}
use Rattle.ip_tree.specs.TreeView.{IsView}
use Rattle.ip_tree.proofs.Looking.{looks_on, still_over}
use Rattle.ip_three.specs.Answered.{EditsTree, three_fault}
use Rattle.ip_three.specs.Applying.{as_edits}
use Rattle.ip_three.specs.Clashes.{clash_of}
use Rattle.ip_three.specs.Merging.{less}
use Rattle.ip_three.specs.Walking.{AreTaken, as_plan}
use Rattle.ip_three.specs.declared.apply.Edit.{Edit}
use Rattle.ip_three.proofs.Composed.{begins, behind, edits, found, merged_below}
use Rattle.ip_three.proofs.MergeFaults.{err_cause, fault_is, free_fault, merge_causes_on}
use Rattle.ip_three.proofs.merge.merge_entries.Goals as goal

pub returns-in_err-plan_entries-clause-edits : goal.returns-in_err-plan_entries-clause-edits
returns-in_err-plan_entries-clause-edits g c tells records b l r right over l_is r_is base_at right_at are root =
    let rule = g.D.Decides.rule c.args.rules.now in
    let p = c.new-plan.result in
    let e = c.new-plan.ensures in
    let f = c.in_err-plan_entries.field-0.0 in
    fault_is c.from_residual.result (three_fault f) c.from_residual.ensures.1 (EditsTree records rule b l r c.plan_entries.new.left)
    (free_fault rule b l r f
    (c.in_err-plan_entries.ensures.planned tells records b l r over l_is base_at right_at (merged_below b l r root) (begins rule records b l r are p e.empty.0 e.empty.1 e.none e.short)
    (behind rule records b l r are p e.empty.0 e.empty.1 e.none e.short [])))

pub returns-in_err-remove_all-clause-edits : goal.returns-in_err-remove_all-clause-edits
returns-in_err-remove_all-clause-edits g c tells records b l r right over l_is r_is base_at right_at are root =
    let rule = g.D.Decides.rule c.args.rules.now in
    let p = c.new-plan.result in
    let e = c.new-plan.ensures in
    let f = c.in_err-remove_all.field-0.0 in
    let walked =
    c.in_ok-plan_entries.ensures.planned tells records b l r over l_is base_at right_at (merged_below b l r root) (begins rule records b l r are p e.empty.0 e.empty.1 e.none e.short)
    (behind rule records b l r are p e.empty.0 e.empty.1 e.none e.short []) in
    fault_is c.from_residual-in_err-remove_all.result (three_fault f) c.from_residual-in_err-remove_all.ensures.1 (EditsTree records rule b l r c.remove_all.new.tree)
    (free_fault rule b l r f (c.in_err-remove_all.ensures.removes tells records l (still_over _ _ _ _ _ records c.in_ok-plan_entries.ensures.looks tells over) walked.0))

pub returns-in_err-remove_all-clause-looks : goal.returns-in_err-remove_all-clause-looks
returns-in_err-remove_all-clause-looks g c = looks_on _ _ _ _ _ _ _ c.in_ok-plan_entries.ensures.looks c.in_err-remove_all.ensures.looks

pub returns-in_err-remove_all-clause-causes : goal.returns-in_err-remove_all-clause-causes
returns-in_err-remove_all-clause-causes g c =
    err_cause _ _ _ _ _ c.in_ok-plan_entries.ensures.looks c.from_residual-in_err-remove_all.result c.in_err-remove_all.field-0.0 c.from_residual-in_err-remove_all.ensures.1 c.in_err-remove_all.ensures.causes

pub returns-in_err-clash-clause-edits : goal.returns-in_err-clash-clause-edits
returns-in_err-clash-clause-edits g c tells records b l r right over l_is r_is base_at right_at are root =
    let rule = g.D.Decides.rule c.args.rules.now in
    let p = c.new-plan.result in
    let e = c.new-plan.ensures in
    let f = c.in_err-clash.field-0.0 in
    let walked =
    c.in_ok-plan_entries.ensures.planned tells records b l r over l_is base_at right_at (merged_below b l r root) (begins rule records b l r are p e.empty.0 e.empty.1 e.none e.short)
    (behind rule records b l r are p e.empty.0 e.empty.1 e.none e.short []) in
    let new = c.plan_entries.new.plan in
    let looks = looks_on _ _ _ _ _ _ _ c.in_ok-plan_entries.ensures.looks c.in_ok-remove_all.ensures.looks in
    let removed = c.in_ok-remove_all.ensures.removes tells records l (still_over _ _ _ _ _ records c.in_ok-plan_entries.ensures.looks tells over) walked.0 in
    let mid_is = subst (λ (xs : List Path). IsView records c.remove_all.new.tree (less l xs)) c.deref.ensures.value removed in
    let over' = still_over _ _ _ _ _ records looks tells over in
    let there = subst (AreTaken records r) (sym c.deref-2.ensures.value) walked.1.taken_there in
    fault_is c.from_residual-in_err-clash.result (three_fault f) c.from_residual-in_err-clash.ensures.1 (EditsTree records rule b l r c.remove_all.new.tree)
    (free_fault rule b l r f (c.in_err-clash.ensures.clash tells records (less l new.gone.items) r over' mid_is there))

pub returns-in_err-clash-clause-looks : goal.returns-in_err-clash-clause-looks
returns-in_err-clash-clause-looks g c = looks_on _ _ _ _ _ _ _ (looks_on _ _ _ _ _ _ _ c.in_ok-plan_entries.ensures.looks c.in_ok-remove_all.ensures.looks) c.in_err-clash.ensures.looks

pub returns-in_err-clash-clause-causes : goal.returns-in_err-clash-clause-causes
returns-in_err-clash-clause-causes g c =
    let looks = looks_on _ _ _ _ _ _ _ c.in_ok-plan_entries.ensures.looks c.in_ok-remove_all.ensures.looks in
    err_cause _ _ _ _ _ looks c.from_residual-in_err-clash.result c.in_err-clash.field-0.0 c.from_residual-in_err-clash.ensures.1 c.in_err-clash.ensures.causes

pub returns-clause-edits : goal.returns-clause-edits
returns-clause-edits g c tells records b l r right over l_is r_is base_at right_at are root =
    let rule = g.D.Decides.rule c.args.rules.now in
    let p = c.new-plan.result in
    let e = c.new-plan.ensures in
    let tree = c.args.merged.now in
    let walked =
    c.in_ok-plan_entries.ensures.planned tells records b l r over l_is base_at right_at (merged_below b l r root) (begins rule records b l r are p e.empty.0 e.empty.1 e.none e.short)
    (behind rule records b l r are p e.empty.0 e.empty.1 e.none e.short []) in
    let new = c.plan_entries.new.plan in
    let looks = looks_on _ _ _ _ _ _ _ c.in_ok-plan_entries.ensures.looks c.in_ok-remove_all.ensures.looks in
    let removed = c.in_ok-remove_all.ensures.removes tells records l (still_over _ _ _ _ _ records c.in_ok-plan_entries.ensures.looks tells over) walked.0 in
    let mid_is = subst (λ (xs : List Path). IsView records c.remove_all.new.tree (less l xs)) c.deref.ensures.value removed in
    let over' = still_over _ _ _ _ _ records looks tells over in
    let there = subst (AreTaken records r) (sym c.deref-2.ensures.value) walked.1.taken_there in
    let gone = new.gone.items in
    let clash_is = c.in_ok-clash.ensures.clash tells records (less l gone) r over' mid_is there ∙ ap (λ (es : List Edit). clash_of (less l gone).map r (as_edits es)) c.deref-2.ensures.value in
    let put =
    c.put_plan.ensures.puts tells records (less l gone) r right (still_over _ _ _ _ _ records (looks_on _ _ _ _ _ _ _ looks c.in_ok-clash.ensures.looks) tells over) mid_is r_is
    (found records rule b l r are root tree right l_is r_is (as_plan p) new walked.1.plans walked.1.taken_there c.in_ok-clash.clash clash_is) in
    edits records rule b l r are root tree right l_is r_is (as_plan p) new walked.1.plans walked.1.taken_there c.in_ok-clash.clash clash_is c.remove_all.new.tree c.put_plan.new.merged mid_is c.put_plan.result put

pub returns-clause-looks : goal.returns-clause-looks
returns-clause-looks g c =
    let looks = looks_on _ _ _ _ _ _ _ c.in_ok-plan_entries.ensures.looks c.in_ok-remove_all.ensures.looks in looks_on _ _ _ _ _ _ _ (looks_on _ _ _ _ _ _ _ looks c.in_ok-clash.ensures.looks) c.put_plan.ensures.looks

pub returns-clause-causes : goal.returns-clause-causes
returns-clause-causes g c =
    let looks = looks_on _ _ _ _ _ _ _ c.in_ok-plan_entries.ensures.looks c.in_ok-remove_all.ensures.looks in
    merge_causes_on _ _ _ _ _ (looks_on _ _ _ _ _ _ _ looks c.in_ok-clash.ensures.looks) c.put_plan.result c.put_plan.ensures.causes
