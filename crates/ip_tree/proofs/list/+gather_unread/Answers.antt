use Rattle.std.proofs.Common.{◌≡◌, ◌+◌, ◌-◌, ◌∷◌, [], List, suc, ap, drop, filter, refl, sym, ◌∙◌, arith}
use Rattle.std.proofs.lemmas.List.{drop_all, drop_more}
use Rattle.std.specs.FinMap.Entries.{find}
use Rattle.std.specs.Prelude.{is_some, slice_get}
use Rattle.ip_shape.specs.Loaded.{unread_in, way}
use Rattle.ip_shape.specs.declared.part.Part.{Part}
use Rattle.ip_spec.specs.Path.{Step, bytes_cmp}
use Rattle.ip_spec.specs.Shape.{at_place, deepest}
use Rattle.ip_spec.specs.Tree.{Tree}
use Rattle.ip_tree.specs.Listing.{Adds}
use Rattle.ip_tree.specs.Reads.{IsFree}
use Rattle.ip_tree.specs.declared.node.Stored.{Stored}
use Rattle.ip_tree.proofs.Looking.{cause_on, looks_nothing, looks_on, still_over}
use Rattle.ip_tree.proofs.UnreadKinds.{child_shape, child_spells, inode_total, kinds_end, kinds_next, leaf_none, part_kinds, part_ref, sliced, unread_all, unread_at}
use Rattle.ip_tree.proofs.Walk.{err_is, match_ok}
use Rattle.ip_tree.proofs.list.+gather_unread.Goals as goal

pub returns-in-Leaf-clause-gathered : goal.returns-in-Leaf-clause-gathered
returns-in-Leaf-clause-gathered g t c tells records es over shape spells s =
    leaf_none (51 - c.args.depth) c.args.depth es c.args.part.now c.in-Leaf.known c.in-Leaf.steps c.in-Leaf.is s (find bytes_cmp s c.args.found.now.entries)

pub loop-child-init : goal.loop-child-init
loop-child-init g t c = record {
  kinds = λ tells records es over shape spells s.
      let depth = c.args.depth in
      let next : 51 - depth ≡ suc (51 - (depth + 1)) = omega (arith, c.if-depth-ge-DEEPEST.false) in
      ap (λ (cs : List (Part Stored)). part_kinds (51 - (depth + 1)) depth es s 0 cs (find bytes_cmp s c.args.found.now.entries)) c.deref-child-items.ensures.value
      ∙ inode_total (51 - depth) (51 - (depth + 1)) depth es c.args.part.now next shape c.in-Inode.known c.in-Inode.count c.in-Inode.children c.in-Inode.is s (find bytes_cmp s c.args.found.now.entries);
  looks = looks_nothing _ _ _;
  counts = refl;
}

pub returns-in_err-gather_unread-in-Inode-clause-gathered : goal.returns-in_err-gather_unread-in-Inode-clause-gathered
returns-in_err-gather_unread-in-Inode-clause-gathered g t c tells records es over shape spells =
    let depth = c.args.depth in
    let items = c.deref-child-items.result.now in
    let i = c.loop-child.child-index in
    let next : 51 - depth ≡ suc (51 - (depth + 1)) = omega (arith, c.if-depth-ge-DEEPEST.false) in
    let at = ap (λ (cs : List (Part Stored)). slice_get cs i) (sym c.deref-child-items.ensures.value) ∙ sliced items i c.child-item.result c.loop-child-test.true c.child-item.is in
    let child = child_shape (51 - depth) (51 - (depth + 1)) depth es c.args.part.now next shape c.in-Inode.known c.in-Inode.count c.in-Inode.children c.in-Inode.is i c.child-item.result at in
    let spelled = child_spells (51 - depth) (51 - (depth + 1)) depth es c.args.part.now next shape c.in-Inode.known c.in-Inode.count c.in-Inode.children c.in-Inode.is records spells i c.child-item.result at in
    let over' = still_over _ _ _ _ _ records c.loop-child.invariant.looks tells over in
    err_is c.from_residual.result c.in_err-gather_unread-in-Inode.field-0.0 c.from_residual.ensures.1 _ _ (c.in_err-gather_unread-in-Inode.ensures.gathered tells records (at_place depth i es) over' child spelled)

pub returns-in_err-gather_unread-in-Inode-clause-looks : goal.returns-in_err-gather_unread-in-Inode-clause-looks
returns-in_err-gather_unread-in-Inode-clause-looks g t c = looks_on _ _ _ _ _ _ _ c.loop-child.invariant.looks c.in_err-gather_unread-in-Inode.ensures.looks

pub returns-in_err-gather_unread-in-Inode-clause-causes : goal.returns-in_err-gather_unread-in-Inode-clause-causes
returns-in_err-gather_unread-in-Inode-clause-causes g t c =
    err_is c.from_residual.result c.in_err-gather_unread-in-Inode.field-0.0 c.from_residual.ensures.1 _ _
    (cause_on _ _ _ _ _ c.loop-child.invariant.looks c.in_err-gather_unread-in-Inode.field-0.0 c.in_err-gather_unread-in-Inode.ensures.causes)

pub loop-child-preserved : goal.loop-child-preserved
loop-child-preserved g t c = record {
  kinds = λ tells records es over shape spells s.
      let depth = c.args.depth in
      let l = 51 - (depth + 1) in
      let items = c.deref-child-items.result.now in
      let i = c.loop-child.child-index in
      let k = c.child-item.result in
      let next : 51 - depth ≡ suc (51 - (depth + 1)) = omega (arith, c.if-depth-ge-DEEPEST.false) in
      let at = ap (λ (cs : List (Part Stored)). slice_get cs i) (sym c.deref-child-items.ensures.value) ∙ sliced items i k c.loop-child-test.true c.child-item.is in
      let child = child_shape (51 - depth) (51 - (depth + 1)) depth es c.args.part.now next shape c.in-Inode.known c.in-Inode.count c.in-Inode.children c.in-Inode.is i k at in
      let spelled = child_spells (51 - depth) (51 - (depth + 1)) depth es c.args.part.now next shape c.in-Inode.known c.in-Inode.count c.in-Inode.children c.in-Inode.is records spells i k at in
      let over' = still_over _ _ _ _ _ records c.loop-child.invariant.looks tells over in
      let adds = c.in_ok-gather_unread-in-Inode.ensures.gathered tells records (at_place depth i es) over' child spelled in
      let split = drop_more items i k c.loop-child-test.true ∙ ap (λ (x : Part Stored). x ∷ drop (i + 1) items) (sym c.child-item.is) in
      let old = find bytes_cmp s c.loop-child.found.entries in
      ap (part_kinds l depth es s (i + 1) (drop (i + 1) items)) (adds s) ∙ sym (kinds_next l depth es s i k (drop (i + 1) items) old) ∙ ap (λ (cs : List (Part Stored)). part_kinds l depth es s i cs old) (sym split)
      ∙ c.loop-child.invariant.kinds tells records es over shape spells s;
  looks = looks_on _ _ _ _ _ _ _ c.loop-child.invariant.looks c.in_ok-gather_unread-in-Inode.ensures.looks;
  counts = c.in_ok-gather_unread-in-Inode.ensures.counts ∙ c.loop-child.invariant.counts;
}

pub returns-after-loop-child-clause-gathered : goal.returns-after-loop-child-clause-gathered
returns-after-loop-child-clause-gathered g t c tells records es over shape spells s =
    let l = 51 - (c.args.depth + 1) in
    let i = c.loop-child.child-index in
    let end = drop_all i c.deref-child-items.result.now c.loop-child-test.false in
    let now = find bytes_cmp s c.loop-child.found.entries in
    sym (kinds_end l c.args.depth es s i now) ∙ ap (λ (cs : List (Part Stored)). part_kinds l c.args.depth es s i cs now) (sym end) ∙ c.loop-child.invariant.kinds tells records es over shape spells s

pub returns-in-Unread-clause-gathered : goal.returns-in-Unread-clause-gathered
returns-in-Unread-clause-gathered g t c tells records es over shape spells =
    let depth = c.args.depth in
    let low = c.requires in
    let sum : depth + (51 - depth) ≡ deepest = omega (arith, low) in
    let asked = part_ref records depth c.in-Unread.«record» es (spells [] c.in-Unread.«record» (unread_at c.args.part.now c.in-Unread.«record» c.in-Unread.count c.in-Unread.is)) in
    match_ok c.gather.result (λ _. Adds es c.args.found.now.entries c.gather.new.found.entries)
    (λ _. Adds (filter (λ (e : Step × Tree). is_some (unread_in (way (51 - depth) depth e.0) c.args.part.now)) es) c.args.found.now.entries c.gather.new.found.entries) IsFree
    (λ u adds s. adds s ∙ unread_all (51 - depth) depth es c.args.part.now c.in-Unread.«record» c.in-Unread.count c.in-Unread.is s (find bytes_cmp s c.args.found.now.entries))
    (c.gather.ensures.gathered tells records depth es over sum asked)
