use Rattle.std.proofs.Common.{◌≡◌, ◌+◌, ◌-◌, ◌∷◌, List, ℕ, Some, suc, ap, drop, subst, sym, ◌∙◌, arith}
use Rattle.std.proofs.lemmas.List.{drop_all, drop_more}
use Rattle.std.specs.FinMap.Entries.{find}
use Rattle.ip_spec.specs.Path.{bytes_cmp}
use Rattle.ip_spec.specs.Shape.{Entries, children_of, deepest}
use Rattle.ip_spec.specs.TreeAt.{ChildrenAt}
use Rattle.ip_spec.specs.declared.record.InodeChild.{InodeChild}
use Rattle.ip_spec.specs.declared.record.Ref.{Ref}
use Rattle.ip_tree.specs.Listing.{kind_or}
use Rattle.ip_tree.specs.Reads.{IsPartRef, record_of}
use Rattle.ip_tree.specs.declared.fetch.Content.{Content}
use Rattle.ip_tree.proofs.EntryBelow.{not_deepest}
use Rattle.ip_tree.proofs.KindsPut.{all_kinds, all_kinds_more, all_kinds_none, children_kinds, first_child, leaf_kinds, no_children_left}
use Rattle.ip_tree.proofs.Looking.{cause_on, looks_on, still_over}
use Rattle.ip_tree.proofs.PartRecords.{is_inode}
use Rattle.ip_tree.proofs.Walk.{err_is}
use Rattle.ip_tree.proofs.below.+gather.Goals as goal

pub returns-then-levels-eq0-clause-gathered : goal.returns-then-levels-eq0-clause-gathered
returns-then-levels-eq0-clause-gathered g t c tells records depth es over sum is =
    let here = c.in_ok-entries.ensures.part tells records depth es over is ∙ ap (λ (k : Content). Some (record_of k)) c.in-Inode.is in
    let high = not_deepest records depth c.args.reference.now.at es is.part c.in-Inode.depth c.in-Inode.children here in absurd (omega (arith, sum, high, c.if-levels-eq0.true))

pub returns-in_ok-put_kinds-in-Leaf-clause-gathered : goal.returns-in_ok-put_kinds-in-Leaf-clause-gathered
returns-in_ok-put_kinds-in-Leaf-clause-gathered g t c tells records depth es over sum is =
    let here = c.in_ok-entries.ensures.part tells records depth es over is ∙ ap (λ (k : Content). Some (record_of k)) c.in-Leaf.is in
    λ s. c.in_ok-put_kinds-in-Leaf.ensures s ∙ ap (λ k. kind_or k (find bytes_cmp s c.args.found.now.entries)) (leaf_kinds records depth c.args.reference.now.at es is.part c.in-Leaf.entries here s)

pub loop-child-init : goal.loop-child-init
loop-child-init g t c = record {
  kinds = λ tells records depth es over sum is.
      let at = c.args.reference.now.at in
      let here = c.in_ok-entries.ensures.part tells records depth es over is ∙ ap (λ (k : Content). Some (record_of k)) c.in-Inode.is in
      let children = (is_inode records c.in-Inode.depth c.in-Inode.children is.part here).children in (
        children_of depth es,
        subst (λ (cs : List InodeChild). ChildrenAt records depth at cs (children_of depth es)) (sym c.as_slice-child-items.ensures) children,
        λ s. children_kinds depth es s (find bytes_cmp s c.args.found.now.entries),
      );
  looks = c.in_ok-entries.ensures.looks;
  counts = c.in_ok-entries.ensures.counts;
}

pub returns-in_err-gather-in-Inode-clause-gathered : goal.returns-in_err-gather-in-Inode-clause-gathered
returns-in_err-gather-in-Inode-clause-gathered g t c tells records depth es over sum is =
    let items = c.as_slice-child-items.result.now in
    let i = c.loop-child.child-index in
    let inv = c.loop-child.invariant.kinds tells records depth es over sum is in
    let split = drop_more items i c.child-item.result c.loop-child-test.true ∙ ap (λ (k : InodeChild). k ∷ drop (i + 1) items) (sym c.child-item.is) in
    let child = first_child records (subst (λ (cs : List InodeChild). ChildrenAt records depth c.args.reference.now.at cs inv.0) split inv.1) in
    let over' = still_over _ _ _ _ _ records c.loop-child.invariant.looks tells over in
    let next : suc depth + (c.args.levels - 1) ≡ deepest = omega (arith, sum, c.if-levels-eq0.false) in
    let asked = subst (λ (r : Ref). IsPartRef records (suc depth) r child.entries) (sym c.reference_of.ensures) child.asked in
    err_is c.from_residual-in_err-gather-in-Inode.result c.in_err-gather-in-Inode.field-0.0 c.from_residual-in_err-gather-in-Inode.ensures.1 _ _
    (c.in_err-gather-in-Inode.ensures.gathered tells records (suc depth) child.entries over' next asked)

pub returns-in_err-gather-in-Inode-clause-looks : goal.returns-in_err-gather-in-Inode-clause-looks
returns-in_err-gather-in-Inode-clause-looks g t c = looks_on _ _ _ _ _ _ _ c.loop-child.invariant.looks c.in_err-gather-in-Inode.ensures.looks

pub returns-in_err-gather-in-Inode-clause-causes : goal.returns-in_err-gather-in-Inode-clause-causes
returns-in_err-gather-in-Inode-clause-causes g t c =
    err_is c.from_residual-in_err-gather-in-Inode.result c.in_err-gather-in-Inode.field-0.0 c.from_residual-in_err-gather-in-Inode.ensures.1 _ _
    (cause_on _ _ _ _ _ c.loop-child.invariant.looks c.in_err-gather-in-Inode.field-0.0 c.in_err-gather-in-Inode.ensures.causes)

pub loop-child-preserved : goal.loop-child-preserved
loop-child-preserved g t c = record {
  kinds = λ tells records depth es over sum is.
      let items = c.as_slice-child-items.result.now in
      let i = c.loop-child.child-index in
      let inv = c.loop-child.invariant.kinds tells records depth es over sum is in
      let split = drop_more items i c.child-item.result c.loop-child-test.true ∙ ap (λ (k : InodeChild). k ∷ drop (i + 1) items) (sym c.child-item.is) in
      let child = first_child records (subst (λ (cs : List InodeChild). ChildrenAt records depth c.args.reference.now.at cs inv.0) split inv.1) in
      let over' = still_over _ _ _ _ _ records c.loop-child.invariant.looks tells over in
      let next : suc depth + (c.args.levels - 1) ≡ deepest = omega (arith, sum, c.if-levels-eq0.false) in
      let asked = subst (λ (r : Ref). IsPartRef records (suc depth) r child.entries) (sym c.reference_of.ensures) child.asked in
      let adds = c.in_ok-gather-in-Inode.ensures.gathered tells records (suc depth) child.entries over' next asked in (
        child.others,
        child.rest,
        λ s. ap (all_kinds s child.others) (adds s) ∙ sym (all_kinds_more s (c.child-item.result.index, child.entries) child.others (find bytes_cmp s c.loop-child.found.entries))
            ∙ ap (λ (l : List (ℕ × Entries)). all_kinds s l (find bytes_cmp s c.loop-child.found.entries)) (sym child.whole) ∙ inv.2 s,
      );
  looks = looks_on _ _ _ _ _ _ _ c.loop-child.invariant.looks c.in_ok-gather-in-Inode.ensures.looks;
  counts = c.in_ok-gather-in-Inode.ensures.counts ∙ c.loop-child.invariant.counts;
}

pub returns-after-loop-child-clause-gathered : goal.returns-after-loop-child-clause-gathered
returns-after-loop-child-clause-gathered g t c tells records depth es over sum is =
    let inv = c.loop-child.invariant.kinds tells records depth es over sum is in
    let end = drop_all c.loop-child.child-index c.as_slice-child-items.result.now c.loop-child-test.false in
    let none = no_children_left records (subst (λ (cs : List InodeChild). ChildrenAt records depth c.args.reference.now.at cs inv.0) end inv.1) in
    λ s. sym (all_kinds_none s (find bytes_cmp s c.loop-child.found.entries)) ∙ ap (λ (l : List (ℕ × Entries)). all_kinds s l (find bytes_cmp s c.loop-child.found.entries)) (sym none) ∙ inv.2 s
