use Rattle.std.proofs.Common.{◌≡◌, ◌≢◌, List, suc, refl, not, ◌∙◌, ap, sym, subst, arith, ◌-◌, ◌+◌, ◌<◌, length}
use Rattle.std.specs.Prelude.{◌==◌, ◌&&◌, IfOk, IfErr, None}
use Rattle.std.specs.Vec.{with_item}
use Rattle.std.proofs.lemmas.Bool.{eq-eqb}
use Rattle.ip_spec.specs.Path.{same_bytes}
use Rattle.ip_spec.specs.Shape.{deepest, place}
use Rattle.ip_shape.specs.Shape.{IsPart, has, steps_at, take_out}
use Rattle.ip_shape.specs.Loaded.{IsLessened, IsRead, IsUnchanged, join_of, unread_in, way}
use Rattle.ip_shape.specs.Reading.{IsToJoin}
use Rattle.ip_shape.specs.declared.part.Part.{Part}
use Rattle.ip_shape.specs.declared.part.Part.TheVariants as variant
use Rattle.ip_shape.specs.declared.part.Part.TheViews as view
use Rattle.ip_shape.proofs.Shapes.{leaf_less, inode_holds}
use Rattle.ip_shape.proofs.Steps.{AreSteps-filter}
use Rattle.ip_shape.proofs.Members.{has-filter}
use Rattle.ip_shape.proofs.Edits.{child_read, children_of, counted, inode_without, inode_same, put_edited, put_same}
use Rattle.ip_shape.proofs.Entering.{into_way, under_leaf}
use Rattle.ip_shape.proofs.Needs.{join_below, none_to_join, read_join}
use Rattle.ip_shape.proofs.Ways.{fresh_leaf, inode_lessened, inode_unchanged, join_result, leaf_lessened, on_ok, same_result, unread_leaf}
use Rattle.ip_shape.proofs.Digests.{in_digest}
use Rattle.ip_shape.proofs.part.+without_step.Goals as goal

pub returns-then-count-clause-removed : goal.returns-then-count-clause-removed
returns-then-count-clause-removed g n c steps ascend is_in is =
    let stands = subst (λ (p : Part g.row.R.Denot). IsPart (deepest - c.args.depth) c.args.depth steps p) c.in-Inode.is is in
    c.join.ensures.removed steps ascend is_in stands (omega (arith, counted c.args.depth steps c.in-Inode.known c.in-Inode.count c.in-Inode.children (c.in-Some-Some.ensures.inode refl) stands, c.if-count.true, c.in-Some-Some.ensures'.0, c.in-Some-Some.ensures'.1))

pub returns-then-count-clause-refused : goal.returns-then-count-clause-refused
returns-then-count-clause-refused g n c steps is =
    same_result (IsPart (deepest - c.args.depth) c.args.depth steps) (view.Inode c.in-Inode.known c.in-Inode.count c.in-Inode.children) c.join.result
    (subst (λ (p : Part g.row.R.Denot). IsPart (deepest - c.args.depth) c.args.depth steps p) c.in-Inode.is is) c.join.ensures.whole

pub returns-then-count-clause-edited : goal.returns-then-count-clause-edited
returns-then-count-clause-edited g n c steps is =
    let stands = subst (λ (p : Part g.row.R.Denot). IsPart (deepest - c.args.depth) c.args.depth steps p) c.in-Inode.is is in
    subst (λ (p : Part g.row.R.Denot). IfOk c.join.result (IsLessened (deepest - c.args.depth) c.args.depth c.args.step.now steps p)) (sym c.in-Inode.is)
    (join_result c.args.depth c.args.step.now steps (view.Inode c.in-Inode.known c.in-Inode.count c.in-Inode.children) c.join.result (c.in-Some-Some.ensures.inode refl)
    (omega (arith, counted c.args.depth steps c.in-Inode.known c.in-Inode.count c.in-Inode.children (c.in-Some-Some.ensures.inode refl) stands, c.if-count.true, c.in-Some-Some.ensures'.0, c.in-Some-Some.ensures'.1)) c.join.ensures.read c.join.ensures.fresh)

pub returns-then-count-clause-read : goal.returns-then-count-clause-read
returns-then-count-clause-read g n c =
    let on = way (deepest - c.args.depth) c.args.depth c.args.step.now in
    let whole = view.Inode c.in-Inode.known c.in-Inode.count c.in-Inode.children in
    on_ok c.join.result (IsRead whole) (unread_in on c.args.part ≡ None) (λ read. ap (unread_in on) c.in-Inode.is ∙ read on) c.join.ensures.read

pub returns-then-count-clause-joined : goal.returns-then-count-clause-joined
returns-then-count-clause-joined g n c steps is =
    let join = join_of (deepest - c.args.depth) c.args.depth c.args.step.now steps in
    let whole = view.Inode c.in-Inode.known c.in-Inode.count c.in-Inode.children in
    on_ok c.join.result (IsRead whole) (IsToJoin join c.args.part None)
    (λ read. subst (λ (p : Part g.row.R.Denot). IsToJoin join p None) (sym c.in-Inode.is) (read_join join whole read)) c.join.ensures.read

pub returns-then-count-clause-left : goal.returns-then-count-clause-left
returns-then-count-clause-left g n c =
    subst (λ (p : Part g.row.R.Denot). IfErr c.join.result (IsUnchanged p)) (sym c.in-Inode.is)
    (same_result (IsUnchanged (view.Inode c.in-Inode.known c.in-Inode.count c.in-Inode.children)) (view.Inode c.in-Inode.known c.in-Inode.count c.in-Inode.children) c.join.result (λ _. (refl, refl)) c.join.ensures.whole)

pub returns-in-Leaf-clause-edited : goal.returns-in-Leaf-clause-edited
returns-in-Leaf-clause-edited g n c steps is =
    subst (λ (p : Part g.row.R.Denot). IsLessened (deepest - c.args.depth) c.args.depth c.args.step.now steps p (variant.Leaf None c.without.result)) (sym c.in-Leaf.is)
    (leaf_lessened (deepest - c.args.depth) c.args.depth c.args.step.now steps c.in-Leaf.known c.in-Leaf.steps (variant.Leaf None c.without.result) (fresh_leaf None c.without.result refl))

pub returns-in-Leaf-clause-read : goal.returns-in-Leaf-clause-read
returns-in-Leaf-clause-read g n c =
    let on = way (deepest - c.args.depth) c.args.depth c.args.step.now in
    ap (unread_in on) c.in-Leaf.is ∙ unread_leaf c.in-Leaf.known c.in-Leaf.steps on

pub returns-in-Leaf-clause-joined : goal.returns-in-Leaf-clause-joined
returns-in-Leaf-clause-joined g n c steps is = λ w r under e. under_leaf c.in-Leaf.known c.in-Leaf.steps w r c.args.part c.in-Leaf.is e

pub returns-in-Leaf-clause-removed : goal.returns-in-Leaf-clause-removed
returns-in-Leaf-clause-removed g n c steps ascend is_in is =
    leaf_less (deepest - c.args.depth) c.args.depth (λ t. not (same_bytes c.args.step.now t)) steps c.in-Leaf.known None c.in-Leaf.steps c.without.result
    (subst (λ (p : Part g.row.R.Denot). IsPart (deepest - c.args.depth) c.args.depth steps p) c.in-Leaf.is is) c.without.ensures

pub returns-in-Inode-clause-removed : goal.returns-in-Inode-clause-removed
returns-in-Inode-clause-removed g n c steps ascend is_in is =
    let depth = c.args.depth in
    let step = c.args.step.now in
    let i = c.in-Some-Some.index in
    let known = c.in-Inode.known in
    let count = c.in-Inode.count in
    let children = c.in-Inode.children in
    let lt : depth < 51 = c.in-Some-Some.ensures.inode refl in
    let stands = subst (λ (p : Part g.row.R.Denot). IsPart (deepest - depth) depth steps p) c.in-Inode.is is in
    let held = inode_holds depth steps known count children lt stands in
    let many : 33 < count = omega (arith, held.0, held.1, c.if-count.false, c.in-Some-Some.ensures'.1) in
    let fewer : c.in-Some-Some.fewer + 1 ≡ count = omega (arith, c.in-Some-Some.ensures'.0, c.in-Some-Some.ensures'.1) in
    let within = subst (λ (parts : List (Part g.row.R.Denot)). i < length parts) c.deref.ensures.value c.in-Some-Some.ensures.child in
    let at : i ≡ place step depth = in_digest i c.args.places.now step depth c.in-Some-Some.ensures.place c.requires in
    let read = child_read children.items i c.index_mut.result.now c.replace-below.result within c.index_mut.ensures.value c.replace-below.ensures.value in
    let there = has-filter (λ t. place t depth == i) step steps ∙ ap (λ b. b && has step steps) (eq-eqb (place step depth) i (sym at)) ∙ is_in in
    put_edited c.without_step-edited.result c.put_back.result (λ child. view.Inode None c.in-Some-Some.fewer (with_item (with_item children i c.replace-below.new.dest) i child))
    (λ child. view.Inode known count (with_item (with_item children i c.replace-below.new.dest) i child))
    (IsPart (deepest - (depth + 1)) (depth + 1) (take_out step (steps_at depth i steps))) (IsPart (deepest - depth) depth (take_out step steps)) c.put_back.ensures.edited c.put_back.ensures.same
    (λ child below. inode_without depth steps known count children lt stands step c.in-Some-Some.fewer i c.replace-below.new.dest child fewer ascend is_in many at below)
    (c.without_step-edited.ensures.removed (steps_at depth i steps) (AreSteps-filter (λ t. place t depth == i) steps ascend) there (children_of depth steps known count children lt stands i c.replace-below.result read))

pub returns-in-Inode-clause-refused : goal.returns-in-Inode-clause-refused
returns-in-Inode-clause-refused g n c steps is =
    let depth = c.args.depth in
    let i = c.in-Some-Some.index in
    let known = c.in-Inode.known in
    let count = c.in-Inode.count in
    let children = c.in-Inode.children in
    let lt : depth < 51 = c.in-Some-Some.ensures.inode refl in
    let stands = subst (λ (p : Part g.row.R.Denot). IsPart (deepest - depth) depth steps p) c.in-Inode.is is in
    let within = subst (λ (parts : List (Part g.row.R.Denot)). i < length parts) c.deref.ensures.value c.in-Some-Some.ensures.child in
    let read = child_read children.items i c.index_mut.result.now c.replace-below.result within c.index_mut.ensures.value c.replace-below.ensures.value in
    put_same c.without_step-edited.result c.put_back.result (λ child. view.Inode None c.in-Some-Some.fewer (with_item (with_item children i c.replace-below.new.dest) i child))
    (λ child. view.Inode known count (with_item (with_item children i c.replace-below.new.dest) i child))
    (IsPart (deepest - (depth + 1)) (depth + 1) (steps_at depth i steps)) (IsPart (deepest - depth) depth steps) c.put_back.ensures.edited c.put_back.ensures.same
    (λ child below. inode_same depth steps known count children lt stands known i c.replace-below.new.dest child below)
    (c.without_step-edited.ensures.refused (steps_at depth i steps) (children_of depth steps known count children lt stands i c.replace-below.result read))

pub returns-in-Inode-clause-edited : goal.returns-in-Inode-clause-edited
returns-in-Inode-clause-edited g n c steps is =
    let depth = c.args.depth in
    let step = c.args.step.now in
    let i = c.in-Some-Some.index in
    let known = c.in-Inode.known in
    let count = c.in-Inode.count in
    let children = c.in-Inode.children in
    let lt : depth < 51 = c.in-Some-Some.ensures.inode refl in
    let levels : suc (deepest - (depth + 1)) ≡ deepest - depth = omega arith in
    let stands = subst (λ (p : Part g.row.R.Denot). IsPart (deepest - depth) depth steps p) c.in-Inode.is is in
    let long : length steps ≢ 33 = λ e. absurd (omega (arith, counted depth steps known count children lt stands, c.if-count.false, c.in-Some-Some.ensures'.1, e)) in
    let within = subst (λ (parts : List (Part g.row.R.Denot)). i < length parts) c.deref.ensures.value c.in-Some-Some.ensures.child in
    let at : i ≡ place step depth = in_digest i c.args.places.now step depth c.in-Some-Some.ensures.place c.requires in
    let read = child_read children.items i c.index_mut.result.now c.replace-below.result within c.index_mut.ensures.value c.replace-below.ensures.value in
    subst (λ (p : Part g.row.R.Denot). IfOk c.put_back.result (IsLessened (deepest - depth) depth step steps p)) (sym c.in-Inode.is)
    (put_edited c.without_step-edited.result c.put_back.result (λ child. view.Inode None c.in-Some-Some.fewer (with_item (with_item children i c.replace-below.new.dest) i child))
    (λ child. view.Inode known count (with_item (with_item children i c.replace-below.new.dest) i child))
    (IsLessened (deepest - (depth + 1)) (depth + 1) step (steps_at depth i steps) c.replace-below.result) (IsLessened (deepest - depth) depth step steps (view.Inode known count children)) c.put_back.ensures.edited c.put_back.ensures.same
    (λ child below. subst (λ l. IsLessened l depth step steps (view.Inode known count children) (view.Inode None c.in-Some-Some.fewer (with_item (with_item children i c.replace-below.new.dest) i child))) levels
    (inode_lessened known None count c.in-Some-Some.fewer children i c.replace-below.new.dest c.replace-below.result child within read (deepest - (depth + 1)) depth step steps at refl long below))
    (c.without_step-edited.ensures.edited (steps_at depth i steps) (children_of depth steps known count children lt stands i c.replace-below.result read)))

pub returns-in-Inode-clause-read : goal.returns-in-Inode-clause-read
returns-in-Inode-clause-read g n c =
    let depth = c.args.depth in
    let step = c.args.step.now in
    let i = c.in-Some-Some.index in
    let known = c.in-Inode.known in
    let count = c.in-Inode.count in
    let children = c.in-Inode.children in
    let lt : depth < 51 = c.in-Some-Some.ensures.inode refl in
    let within = subst (λ (parts : List (Part g.row.R.Denot)). i < length parts) c.deref.ensures.value c.in-Some-Some.ensures.child in
    let at : i ≡ place step depth = in_digest i c.args.places.now step depth c.in-Some-Some.ensures.place c.requires in
    let read = child_read children.items i c.index_mut.result.now c.replace-below.result within c.index_mut.ensures.value c.replace-below.ensures.value in
    let deeper = unread_in (way (deepest - (depth + 1)) (depth + 1) step) c.replace-below.result in
    put_edited c.without_step-edited.result c.put_back.result (λ child. view.Inode None c.in-Some-Some.fewer (with_item (with_item children i c.replace-below.new.dest) i child))
    (λ child. view.Inode known count (with_item (with_item children i c.replace-below.new.dest) i child))
    (λ _. deeper ≡ None) (λ _. unread_in (way (deepest - depth) depth step) c.args.part ≡ None) c.put_back.ensures.edited c.put_back.ensures.same
    (λ child below. into_way depth step known count children c.args.part i lt c.in-Inode.is at c.replace-below.result read ∙ below)
    c.without_step-edited.ensures.read

pub returns-in-Inode-clause-joined : goal.returns-in-Inode-clause-joined
returns-in-Inode-clause-joined g n c steps is =
    let depth = c.args.depth in
    let step = c.args.step.now in
    let i = c.in-Some-Some.index in
    let known = c.in-Inode.known in
    let count = c.in-Inode.count in
    let children = c.in-Inode.children in
    let lt : depth < 51 = c.in-Some-Some.ensures.inode refl in
    let stands = subst (λ (p : Part g.row.R.Denot). IsPart (deepest - depth) depth steps p) c.in-Inode.is is in
    let long : length steps ≢ 33 = λ e. absurd (omega (arith, counted depth steps known count children lt stands, c.if-count.false, c.in-Some-Some.ensures'.1, e)) in
    let within = subst (λ (parts : List (Part g.row.R.Denot)). i < length parts) c.deref.ensures.value c.in-Some-Some.ensures.child in
    let at : i ≡ place step depth = in_digest i c.args.places.now step depth c.in-Some-Some.ensures.place c.requires in
    let read = child_read children.items i c.index_mut.result.now c.replace-below.result within c.index_mut.ensures.value c.replace-below.ensures.value in
    let below = join_of (deepest - (depth + 1)) (depth + 1) step (steps_at depth i steps) in
    put_edited c.without_step-edited.result c.put_back.result (λ child. view.Inode None c.in-Some-Some.fewer (with_item (with_item children i c.replace-below.new.dest) i child))
    (λ child. view.Inode known count (with_item (with_item children i c.replace-below.new.dest) i child))
    (λ _. IsToJoin below c.replace-below.result None) (λ _. IsToJoin (join_of (deepest - depth) depth step steps) c.args.part None) c.put_back.ensures.edited c.put_back.ensures.same
    (λ child none. subst (λ join. IsToJoin join c.args.part None) (sym (join_below depth i step steps lt long at))
    (none_to_join known count children c.args.part c.replace-below.result i c.in-Inode.is read below none))
    (c.without_step-edited.ensures.joined (steps_at depth i steps) (children_of depth steps known count children lt stands i c.replace-below.result read))

pub returns-in-Inode-clause-left : goal.returns-in-Inode-clause-left
returns-in-Inode-clause-left g n c =
    let i = c.in-Some-Some.index in
    let known = c.in-Inode.known in
    let count = c.in-Inode.count in
    let children = c.in-Inode.children in
    let within = subst (λ (parts : List (Part g.row.R.Denot)). i < length parts) c.deref.ensures.value c.in-Some-Some.ensures.child in
    let read = child_read children.items i c.index_mut.result.now c.replace-below.result within c.index_mut.ensures.value c.replace-below.ensures.value in
    subst (λ (p : Part g.row.R.Denot). IfErr c.put_back.result (IsUnchanged p)) (sym c.in-Inode.is)
    (put_same c.without_step-edited.result c.put_back.result (λ child. view.Inode None c.in-Some-Some.fewer (with_item (with_item children i c.replace-below.new.dest) i child))
    (λ child. view.Inode known count (with_item (with_item children i c.replace-below.new.dest) i child))
    (IsUnchanged c.replace-below.result) (IsUnchanged (view.Inode known count children)) c.put_back.ensures.edited c.put_back.ensures.same
    (λ child below. inode_unchanged known known count count children i c.replace-below.new.dest c.replace-below.result child within read refl below)
    c.without_step-edited.ensures.left)
