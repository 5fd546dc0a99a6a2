use Rattle.std.proofs.Common.{◌≡◌, List, sym, subst, refl, ◌-◌, ◌<◌, length}
use Rattle.std.specs.Prelude.{None}
use Rattle.std.specs.Vec.{with_item}
use Rattle.std.proofs.lemmas.Bool.{false≢true}
use Rattle.ip_spec.specs.Shape.{deepest, place}
use Rattle.ip_shape.specs.Shape.{IsPart, steps_at}
use Rattle.ip_shape.specs.Loaded.{IsEdited}
use Rattle.ip_shape.specs.declared.part.Part.{Part}
use Rattle.ip_shape.specs.declared.part.Part.TheVariants as variant
use Rattle.ip_shape.specs.declared.part.Part.TheViews as view
use Rattle.ip_shape.proofs.Edits.{child_read, children_of, inode_same}
use Rattle.ip_shape.proofs.Shapes.{inode_holds, is_above, leaf_again}
use Rattle.ip_shape.proofs.Ways.{leaf_edited, fresh_leaf, inode_edited, unread_edited}
use Rattle.ip_shape.proofs.Digests.{in_digest}
use Rattle.ip_shape.proofs.part.+forgotten.Goals as goal

pub returns-in-Leaf-clause-kept : goal.returns-in-Leaf-clause-kept
returns-in-Leaf-clause-kept g n c steps is =
    leaf_again (deepest - c.args.depth) c.args.depth steps c.in-Leaf.known None c.in-Leaf.steps c.in-Leaf.steps refl (subst (λ (p : Part g.row.R.Denot). IsPart (deepest - c.args.depth) c.args.depth steps p) c.in-Leaf.is is)

pub returns-in-Leaf-clause-edited : goal.returns-in-Leaf-clause-edited
returns-in-Leaf-clause-edited g n c steps is =
    subst (λ (p : Part g.row.R.Denot). IsEdited c.args.depth c.args.step.now p (variant.Leaf None c.in-Leaf.steps)) (sym c.in-Leaf.is)
    (leaf_edited c.args.depth c.args.step.now c.in-Leaf.known c.in-Leaf.steps (variant.Leaf None c.in-Leaf.steps) (fresh_leaf None c.in-Leaf.steps refl))

pub returns-in_default-clause-edited : goal.returns-in_default-clause-edited
returns-in_default-clause-edited g n c steps is =
    let depth = c.args.depth in
    let stands = subst (λ (p : Part g.row.R.Denot). IsPart (deepest - depth) depth steps p) c.in-Inode.is is in
    let lt = is_above depth steps c.in-Inode.known c.in-Inode.count c.in-Inode.children stands in
    let held = inode_holds depth steps c.in-Inode.known c.in-Inode.count c.in-Inode.children lt stands in
    absurd (false≢true (c.in_default.ensures.none lt (subst (λ (parts : List (Part g.row.R.Denot)). length parts ≡ 32) (sym c.deref.ensures.value) held.2)))

pub returns-in-Inode-clause-kept : goal.returns-in-Inode-clause-kept
returns-in-Inode-clause-kept g n c steps is =
    let depth = c.args.depth in
    let i = c.in-Some.index in
    let children = c.in-Inode.children in
    let lt : depth < 51 = c.in-Some.ensures.inode refl in
    let stands = subst (λ (p : Part g.row.R.Denot). IsPart (deepest - depth) depth steps p) c.in-Inode.is is in
    let within = subst (λ (parts : List (Part g.row.R.Denot)). i < length parts) c.deref.ensures.value c.in-Some.ensures.child in
    let read = child_read children.items i c.index_mut.result.now c.replace-below.result within c.index_mut.ensures.value c.replace-below.ensures.value in
    inode_same depth steps c.in-Inode.known c.in-Inode.count children lt stands None i c.replace-below.new.dest c.forgotten.result
    (c.forgotten.ensures.kept (steps_at depth i steps) (children_of depth steps c.in-Inode.known c.in-Inode.count children lt stands i c.replace-below.result read))

pub returns-in-Inode-clause-edited : goal.returns-in-Inode-clause-edited
returns-in-Inode-clause-edited g n c steps is =
    let depth = c.args.depth in
    let step = c.args.step.now in
    let i = c.in-Some.index in
    let known = c.in-Inode.known in
    let count = c.in-Inode.count in
    let children = c.in-Inode.children in
    let lt : depth < 51 = c.in-Some.ensures.inode refl in
    let stands = subst (λ (p : Part g.row.R.Denot). IsPart (deepest - depth) depth steps p) c.in-Inode.is is in
    let within = subst (λ (parts : List (Part g.row.R.Denot)). i < length parts) c.deref.ensures.value c.in-Some.ensures.child in
    let at : i ≡ place step depth = in_digest i c.args.places.now step depth c.in-Some.ensures.place c.requires in
    let read = child_read children.items i c.index_mut.result.now c.replace-below.result within c.index_mut.ensures.value c.replace-below.ensures.value in
    subst (λ (p : Part g.row.R.Denot). IsEdited depth step p (view.Inode None count (with_item (with_item children i c.replace-below.new.dest) i c.forgotten.result))) (sym c.in-Inode.is)
    (inode_edited known None count count children i c.replace-below.new.dest c.replace-below.result c.forgotten.result within read depth step at refl
    (c.forgotten.ensures.edited (steps_at depth i steps) (children_of depth steps known count children lt stands i c.replace-below.result read)))

pub returns-clause-edited : goal.returns-clause-edited
returns-clause-edited g n c steps is =
    subst (λ (p : Part g.row.R.Denot). IsEdited c.args.depth c.args.step.now p (variant.Unread c.in-Unread.record c.in-Unread.count)) (sym c.in-Unread.is)
    (unread_edited c.args.depth c.args.step.now c.in-Unread.record c.in-Unread.count)
