use Rattle.std.proofs.Common.{◌≡◌, List, ap, ◌∙◌, subst, sym, ◌-◌, ◌+◌, ◌<◌, length, Bool, true, false, refl}
use Rattle.std.specs.Prelude.{◌==◌, ◌&&◌, IfOk, IfErr, None}
use Rattle.std.specs.Vec.{with_item}
use Rattle.ip_spec.specs.Shape.{deepest, place}
use Rattle.ip_shape.specs.Shape.{IsPart, add, steps_at}
use Rattle.ip_shape.specs.Loaded.{IsEdited, IsUnchanged, unread_in, way}
use Rattle.ip_shape.specs.declared.part.Part.{Part}
use Rattle.ip_shape.specs.declared.part.Part.TheViews as view
use Rattle.ip_shape.proofs.Steps.{AreSteps-filter}
use Rattle.ip_shape.proofs.Members.{has-filter}
use Rattle.ip_shape.proofs.Edits.{child_read, children_of, inode_with, inode_same, put_edited, put_same}
use Rattle.ip_shape.proofs.Entering.{into_way}
use Rattle.ip_shape.proofs.Ways.{leaf_result, inode_edited, inode_unchanged, unread_leaf, whenever_ok}
use Rattle.ip_shape.proofs.Digests.{in_digest}
use Rattle.ip_shape.proofs.part.+with_step.Goals as goal

and_false : (b : Bool) → (b && false) ≡ false
and_false true = refl
and_false false = refl

pub returns-in-Leaf-clause-edited : goal.returns-in-Leaf-clause-edited
returns-in-Leaf-clause-edited g n c = leaf_result c.args.depth c.args.step.now c.in-Leaf.known c.in-Leaf.steps c.args.part c.leaf_with.result c.in-Leaf.is c.leaf_with.ensures.fresh

pub returns-in-Leaf-clause-read : goal.returns-in-Leaf-clause-read
returns-in-Leaf-clause-read g n c =
    let on = way (deepest - c.args.depth) c.args.depth c.args.step.now in
    whenever_ok c.leaf_with.result (unread_in on c.args.part ≡ None) (ap (unread_in on) c.in-Leaf.is ∙ unread_leaf c.in-Leaf.known c.in-Leaf.steps on)

pub returns-in-Leaf-clause-left : goal.returns-in-Leaf-clause-left
returns-in-Leaf-clause-left g n c = subst (λ (p : Part g.row.R.Denot). IfErr c.leaf_with.result (IsUnchanged p)) (sym c.in-Leaf.is) c.leaf_with.ensures.left

pub returns-in-Some-Some-clause-added : goal.returns-in-Some-Some-clause-added
returns-in-Some-Some-clause-added g n c steps ascend absent is =
    let depth = c.args.depth in
    let step = c.args.step.now in
    let i = c.in-Some-Some.index in
    let known = c.in-Inode.known in
    let count = c.in-Inode.count in
    let children = c.in-Inode.children in
    let lt : depth < 51 = c.in-Some-Some.ensures.inode refl in
    let stands = subst (λ (p : Part g.row.R.Denot). IsPart (deepest - depth) depth steps p) c.in-Inode.is is in
    let within = subst (λ (parts : List (Part g.row.R.Denot)). i < length parts) c.deref.ensures.value c.in-Some-Some.ensures.child in
    let at : i ≡ place step depth = in_digest i c.args.places.now step depth c.in-Some-Some.ensures.place c.requires in
    let read = child_read children.items i c.index_mut.result.now c.replace-below.result within c.index_mut.ensures.value c.replace-below.ensures.value in
    let absent_below = has-filter (λ t. place t depth == i) step steps ∙ ap (λ b. (place step depth == i) && b) absent ∙ and_false (place step depth == i) in
    put_edited c.with_step-edited.result c.put_back.result (λ child. view.Inode None c.in-Some-Some.total (with_item (with_item children i c.replace-below.new.dest) i child))
    (λ child. view.Inode known count (with_item (with_item children i c.replace-below.new.dest) i child))
    (IsPart (deepest - (depth + 1)) (depth + 1) (add step (steps_at depth i steps))) (IsPart (deepest - depth) depth (add step steps)) c.put_back.ensures.edited c.put_back.ensures.same
    (λ child below. inode_with depth steps known count children lt stands step c.in-Some-Some.total i c.replace-below.new.dest child c.in-Some-Some.ensures'.1 ascend absent at below)
    (c.with_step-edited.ensures.added (steps_at depth i steps) (AreSteps-filter (λ t. place t depth == i) steps ascend) absent_below (children_of depth steps known count children lt stands i c.replace-below.result read))

pub returns-in-Some-Some-clause-refused : goal.returns-in-Some-Some-clause-refused
returns-in-Some-Some-clause-refused g n c steps is =
    let depth = c.args.depth in
    let i = c.in-Some-Some.index in
    let known = c.in-Inode.known in
    let count = c.in-Inode.count in
    let children = c.in-Inode.children in
    let lt : depth < 51 = c.in-Some-Some.ensures.inode refl in
    let stands = subst (λ (p : Part g.row.R.Denot). IsPart (deepest - depth) depth steps p) c.in-Inode.is is in
    let within = subst (λ (parts : List (Part g.row.R.Denot)). i < length parts) c.deref.ensures.value c.in-Some-Some.ensures.child in
    let read = child_read children.items i c.index_mut.result.now c.replace-below.result within c.index_mut.ensures.value c.replace-below.ensures.value in
    put_same c.with_step-edited.result c.put_back.result (λ child. view.Inode None c.in-Some-Some.total (with_item (with_item children i c.replace-below.new.dest) i child))
    (λ child. view.Inode known count (with_item (with_item children i c.replace-below.new.dest) i child))
    (IsPart (deepest - (depth + 1)) (depth + 1) (steps_at depth i steps)) (IsPart (deepest - depth) depth steps) c.put_back.ensures.edited c.put_back.ensures.same
    (λ child below. inode_same depth steps known count children lt stands known i c.replace-below.new.dest child below)
    (c.with_step-edited.ensures.refused (steps_at depth i steps) (children_of depth steps known count children lt stands i c.replace-below.result read))

pub returns-in-Some-Some-clause-edited : goal.returns-in-Some-Some-clause-edited
returns-in-Some-Some-clause-edited g n c =
    let depth = c.args.depth in
    let step = c.args.step.now in
    let i = c.in-Some-Some.index in
    let known = c.in-Inode.known in
    let count = c.in-Inode.count in
    let children = c.in-Inode.children in
    let within = subst (λ (parts : List (Part g.row.R.Denot)). i < length parts) c.deref.ensures.value c.in-Some-Some.ensures.child in
    let at : i ≡ place step depth = in_digest i c.args.places.now step depth c.in-Some-Some.ensures.place c.requires in
    let read = child_read children.items i c.index_mut.result.now c.replace-below.result within c.index_mut.ensures.value c.replace-below.ensures.value in
    subst (λ (p : Part g.row.R.Denot). IfOk c.put_back.result (IsEdited depth step p)) (sym c.in-Inode.is)
    (put_edited c.with_step-edited.result c.put_back.result (λ child. view.Inode None c.in-Some-Some.total (with_item (with_item children i c.replace-below.new.dest) i child))
    (λ child. view.Inode known count (with_item (with_item children i c.replace-below.new.dest) i child))
    (IsEdited (depth + 1) step c.replace-below.result) (IsEdited depth step (view.Inode known count children)) c.put_back.ensures.edited c.put_back.ensures.same
    (λ child below. inode_edited known None count c.in-Some-Some.total children i c.replace-below.new.dest c.replace-below.result child within read depth step at refl below)
    c.with_step-edited.ensures.edited)

pub returns-in-Some-Some-clause-read : goal.returns-in-Some-Some-clause-read
returns-in-Some-Some-clause-read g n c =
    let depth = c.args.depth in
    let step = c.args.step.now in
    let i = c.in-Some-Some.index in
    let known = c.in-Inode.known in
    let count = c.in-Inode.count in
    let children = c.in-Inode.children in
    let lt : depth < 51 = c.in-Some-Some.ensures.inode refl in
    let within = subst (λ (parts : List (Part g.row.R.Denot)). i < length parts) c.deref.ensures.value c.in-Some-Some.ensures.child in
    let at : i ≡ place step depth = in_digest i c.args.places.now step depth c.in-Some-Some.ensures.place c.requires in
    let read = child_read children.items i c.index_mut.result.now c.replace-below.result within c.index_mut.ensures.value c.replace-below.ensures.value in
    let deeper = unread_in (way (deepest - (depth + 1)) (depth + 1) step) c.replace-below.result in
    put_edited c.with_step-edited.result c.put_back.result (λ child. view.Inode None c.in-Some-Some.total (with_item (with_item children i c.replace-below.new.dest) i child))
    (λ child. view.Inode known count (with_item (with_item children i c.replace-below.new.dest) i child))
    (λ _. deeper ≡ None) (λ _. unread_in (way (deepest - depth) depth step) c.args.part ≡ None) c.put_back.ensures.edited c.put_back.ensures.same
    (λ child below. into_way depth step known count children c.args.part i lt c.in-Inode.is at c.replace-below.result read ∙ below)
    c.with_step-edited.ensures.read

pub returns-in-Some-Some-clause-left : goal.returns-in-Some-Some-clause-left
returns-in-Some-Some-clause-left g n c =
    let i = c.in-Some-Some.index in
    let known = c.in-Inode.known in
    let count = c.in-Inode.count in
    let children = c.in-Inode.children in
    let within = subst (λ (parts : List (Part g.row.R.Denot)). i < length parts) c.deref.ensures.value c.in-Some-Some.ensures.child in
    let read = child_read children.items i c.index_mut.result.now c.replace-below.result within c.index_mut.ensures.value c.replace-below.ensures.value in
    subst (λ (p : Part g.row.R.Denot). IfErr c.put_back.result (IsUnchanged p)) (sym c.in-Inode.is)
    (put_same c.with_step-edited.result c.put_back.result (λ child. view.Inode None c.in-Some-Some.total (with_item (with_item children i c.replace-below.new.dest) i child))
    (λ child. view.Inode known count (with_item (with_item children i c.replace-below.new.dest) i child))
    (IsUnchanged c.replace-below.result) (IsUnchanged (view.Inode known count children)) c.put_back.ensures.edited c.put_back.ensures.same
    (λ child below. inode_unchanged known known count count children i c.replace-below.new.dest c.replace-below.result child within read refl below)
    c.with_step-edited.ensures.left)
