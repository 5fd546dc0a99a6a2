use Rattle.std.proofs.Common.{◌+◌, ap, arith, drop, map, max, sym, ◌∙◌}
use Rattle.std.specs.Prelude.{fold}
use Rattle.std.proofs.lemmas.List.{drop_all, length-map}
use Rattle.ip_tree.specs.Heights.{unread_height}
use Rattle.ip_tree.proofs.Heights.{step_max, unread_inode}
use Rattle.ip_tree.proofs.height.+unread_height.Goals as goal

pub loop-child-preserved : goal.loop-child-preserved
loop-child-preserved t c =
    let items = c.deref-child-items.result.now in
    let i = c.loop-child.child-index in
    ap (λ m. fold max m (drop (i + 1) (map unread_height items))) (c.max-most.ensures ∙ ap (max c.loop-child.most) c.unread_height.ensures)
    ∙ step_max unread_height items i c.loop-child.most c.child-item.result c.loop-child-test.true c.child-item.is ∙ c.loop-child.invariant

pub returns-after-loop-child : goal.returns-after-loop-child
returns-after-loop-child t c =
    let items = c.deref-child-items.result.now in
    let end = drop_all c.loop-child.child-index (map unread_height items) (omega (arith, c.loop-child-test.false, length-map items unread_height)) in
    ap (fold max c.loop-child.most) (sym end) ∙ c.loop-child.invariant ∙ ap (λ l. fold max 0 (map unread_height l)) c.deref-child-items.ensures.value ∙ sym (unread_inode c.in-Inode.known c.in-Inode.count c.in-Inode.children)
    ∙ sym (ap unread_height c.in-Inode.is)
