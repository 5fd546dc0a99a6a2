use Rattle.std.proofs.Common.{[], ℕ, Option, Some, ap, sym, subst, ◌∙◌}
use Rattle.ip_tree.specs.Finding.{as_node}
use Rattle.ip_tree.specs.TreeView.{IsView}
use Rattle.ip_three.specs.Answered.{MergesTrees}
use Rattle.ip_three.specs.Merging.{of_left, of_right}
use Rattle.ip_three.specs.Walking.{as_side}
use Rattle.ip_three.specs.declared.side.Side.{Side}
use Rattle.ip_three.proofs.Composed.{edited_merge, oldest_is, whole_merge}
use Rattle.ip_three.proofs.MergeFaults.{fault_is}
use Rattle.ip_three.proofs.OneRecords.{are_merging}
use Rattle.ip_three.proofs.SidesFound.{at_root}
use Rattle.ip_three.proofs.merge.merge_trees.Goals as goal

pub returns-in_err-merge_entries-in-None-clause-merges : goal.returns-in_err-merge_entries-in-None-clause-merges
returns-in_err-merge_entries-in-None-clause-merges g c tells records b l r over b_is l_is r_is one =
    let rule = g.D.Decides.rule c.args.rules.now in
    let are = are_merging records rule c.args.base.now c.args.left.now c.args.right.now b l r one b_is l_is r_is in
    let base_at = at_root records c.args.base.now b (as_node c.root_place.result) b_is c.root_place.ensures in
    let left_at = at_root records c.args.left.now l (as_node c.root_place-3.result) l_is c.root_place-3.ensures in
    let right_at = at_root records c.args.right.now r (as_node c.root_place-2.result) r_is c.root_place-2.ensures in
    let root = sym (c.in-None.ensures records b l r [] base_at left_at right_at) in
    fault_is c.from_residual-in_err-merge_entries-in-None.result c.in_err-merge_entries-in-None.field-0.0 c.from_residual-in_err-merge_entries-in-None.ensures.1 (MergesTrees records rule b l r)
    (c.in_err-merge_entries-in-None.ensures.edits tells records b l r c.args.right.now over (c.in_ok-merged-in-None.ensures records l l_is) r_is base_at.place right_at.place are root)

pub returns-in_ok-copy_of-in-Some-Left-clause-merges : goal.returns-in_ok-copy_of-in-Some-Left-clause-merges
returns-in_ok-copy_of-in-Some-Left-clause-merges g c tells records b l r over b_is l_is r_is one =
    let rule = g.D.Decides.rule c.args.rules.now in
    let are = are_merging records rule c.args.base.now c.args.left.now c.args.right.now b l r one b_is l_is r_is in
    let base_at = at_root records c.args.base.now b (as_node c.root_place.result) b_is c.root_place.ensures in
    let left_at = at_root records c.args.left.now l (as_node c.root_place-3.result) l_is c.root_place-3.ensures in
    let right_at = at_root records c.args.right.now r (as_node c.root_place-2.result) r_is c.root_place-2.ensures in
    let root = sym (c.in-Some-Left.ensures records b l r [] base_at left_at right_at) ∙ ap (λ (s : Side). Some (as_side s)) c.in-Some-Left.field-0-is in
    let copy = c.in_ok-copy_of-in-Some-Left.field-0 in
    whole_merge records rule b l r are of_left root copy
    (subst (λ (n : Option ℕ). IsView records copy (record l { oldest = n })) (oldest_is records c.args.left.now c.args.right.now l r c.least-oldest.result l_is r_is c.least-oldest.ensures)
    (c.in_ok-copy_of-in-Some-Left.ensures records l l_is))

pub returns-in_ok-copy_of-in-Some-Right-clause-merges : goal.returns-in_ok-copy_of-in-Some-Right-clause-merges
returns-in_ok-copy_of-in-Some-Right-clause-merges g c tells records b l r over b_is l_is r_is one =
    let rule = g.D.Decides.rule c.args.rules.now in
    let are = are_merging records rule c.args.base.now c.args.left.now c.args.right.now b l r one b_is l_is r_is in
    let base_at = at_root records c.args.base.now b (as_node c.root_place.result) b_is c.root_place.ensures in
    let left_at = at_root records c.args.left.now l (as_node c.root_place-3.result) l_is c.root_place-3.ensures in
    let right_at = at_root records c.args.right.now r (as_node c.root_place-2.result) r_is c.root_place-2.ensures in
    let root = sym (c.in-Some-Right.ensures records b l r [] base_at left_at right_at) ∙ ap (λ (s : Side). Some (as_side s)) c.in-Some-Right.field-0-is in
    let copy = c.in_ok-copy_of-in-Some-Right.field-0 in
    whole_merge records rule b l r are of_right root copy
    (subst (λ (n : Option ℕ). IsView records copy (record r { oldest = n })) (oldest_is records c.args.left.now c.args.right.now l r c.least-oldest.result l_is r_is c.least-oldest.ensures)
    (c.in_ok-copy_of-in-Some-Right.ensures records r r_is))

pub returns-in_ok-merge_entries-in-None-clause-merges : goal.returns-in_ok-merge_entries-in-None-clause-merges
returns-in_ok-merge_entries-in-None-clause-merges g c tells records b l r over b_is l_is r_is one =
    let rule = g.D.Decides.rule c.args.rules.now in
    let are = are_merging records rule c.args.base.now c.args.left.now c.args.right.now b l r one b_is l_is r_is in
    let base_at = at_root records c.args.base.now b (as_node c.root_place.result) b_is c.root_place.ensures in
    let left_at = at_root records c.args.left.now l (as_node c.root_place-3.result) l_is c.root_place-3.ensures in
    let right_at = at_root records c.args.right.now r (as_node c.root_place-2.result) r_is c.root_place-2.ensures in
    let root = sym (c.in-None.ensures records b l r [] base_at left_at right_at) in
    edited_merge records rule b l r root c.merge_entries.new.merged c.least-oldest.result (oldest_is records c.args.left.now c.args.right.now l r c.least-oldest.result l_is r_is c.least-oldest.ensures)
    (c.in_ok-merge_entries-in-None.ensures.edits tells records b l r c.args.right.now over (c.in_ok-merged-in-None.ensures records l l_is) r_is base_at.place right_at.place are root)
