use Rattle.std.proofs.Common.{◌≡◌, ap, ◌∙◌, sym, subst, arith, ◌-◌, ◌+◌, ◌<◌, ◌∷◌, [], length, drop}
use Rattle.std.specs.Prelude.{Some, slice_index_or}
use Rattle.std.specs.Vec.{with_item}
use Rattle.std.proofs.lemmas.Option.{slice_get-get_or}
use Rattle.ip_spec.specs.Shape.{deepest}
use Rattle.ip_shape.specs.Shape.{IsPart, steps_at}
use Rattle.ip_shape.specs.Loaded.{unread_in}
use Rattle.ip_shape.specs.Reading.{IsEntered, Steps, spelled_by, steps_under}
use Rattle.ip_shape.specs.declared.part.Part.{Part}
use Rattle.ip_shape.specs.declared.part.Part.TheViews as view
use Rattle.ip_shape.proofs.Edits.{child_at, inode_same}
use Rattle.ip_shape.proofs.Shapes.{is_above, unread_counts}
use Rattle.ip_shape.proofs.Entering.{at_inode, drop_end, drop_next, entered_here, entered_next, inode_entered, into_child, past_child, past_unread, same_record, shape_here, steps_next, under_leaf}
use Rattle.ip_shape.proofs.reading.+entered.Goals as goal

pub returns-in-Leaf-clause-put : goal.returns-in-Leaf-clause-put
returns-in-Leaf-clause-put g n c depth steps r le is found = absurd (under_leaf c.in-Leaf.known c.in-Leaf.steps (drop c.args.at c.args.indexes.now) r c.args.part c.in-Leaf.is found)

pub returns-then-at-indexes-clause-put : goal.returns-then-at-indexes-clause-put
returns-then-at-indexes-clause-put g n c depth steps r le is found =
    let none = drop_end c.args.indexes.now c.args.at c.if-at-indexes.true in
    absurd (at_inode c.in-Inode.known c.in-Inode.count c.in-Inode.children r c.args.part c.in-Inode.is (subst (λ w. unread_in w c.args.part ≡ Some (r, [])) none found))

pub returns-then-index-len-clause-put : goal.returns-then-index-len-clause-put
returns-then-index-len-clause-put g n c depth steps r le is found =
    let next = drop_next c.args.indexes.now c.args.at 0 c.if-at-indexes.false in
    absurd (past_child c.in-Inode.known c.in-Inode.count c.in-Inode.children (slice_index_or c.args.indexes.now c.args.at 0) (drop (c.args.at + 1) c.args.indexes.now) r c.args.part c.in-Inode.is
    (omega (arith, c.if-index-len.true, c.len.ensures, c.in-Inode.children.ok.0)) (subst (λ w. unread_in w c.args.part ≡ Some (r, [])) next found))

pub returns-else-index-len-clause-shape : goal.returns-else-index-len-clause-shape
returns-else-index-len-clause-shape g n c depth steps r le is found stands =
    let i = slice_index_or c.args.indexes.now c.args.at 0 in
    let rest = drop (c.args.at + 1) c.args.indexes.now in
    let next = drop_next c.args.indexes.now c.args.at 0 c.if-at-indexes.false in
    let inode = subst (λ (p : Part g.row.R.Denot). IsPart (deepest - depth) depth steps p) c.in-Inode.is is in
    let lt : depth < 51 = is_above depth steps c.in-Inode.known c.in-Inode.count c.in-Inode.children inode in
    let within : i < length c.in-Inode.children.items = omega (arith, c.if-index-len.false, c.len.ensures, c.in-Inode.children.ok.0) in
    let below = child_at depth steps c.in-Inode.known c.in-Inode.count c.in-Inode.children lt inode i c.index_mut.result.now within c.index_mut.ensures.value in
    let taken = subst (λ (p : Part g.row.R.Denot). IsPart (deepest - (depth + 1)) (depth + 1) (steps_at depth i steps) p) (sym c.replace-below.ensures.value) below in
    let read = slice_get-get_or c.in-Inode.children.items i c.index_mut.result.now within ∙ ap Some (sym c.index_mut.ensures.value) ∙ ap Some (sym c.replace-below.ensures.value) in
    let deeper = into_child c.in-Inode.known c.in-Inode.count c.in-Inode.children i rest r c.args.part c.replace-below.result c.in-Inode.is read (subst (λ w. unread_in w c.args.part ≡ Some (r, [])) next found) in
    inode_same depth steps c.in-Inode.known c.in-Inode.count c.in-Inode.children lt inode c.in-Inode.known i c.replace-below.new.dest c.entered.result
    (c.entered.ensures.shape (depth + 1) (steps_at depth i steps) r (omega (arith, lt)) taken deeper
    (steps_next depth i rest steps r c.args.content (subst (λ w. Steps depth w steps (spelled_by r (length (steps_under depth w steps)) c.args.content)) next stands)))

pub returns-else-index-len-clause-put : goal.returns-else-index-len-clause-put
returns-else-index-len-clause-put g n c depth steps r le is found =
    let i = slice_index_or c.args.indexes.now c.args.at 0 in
    let rest = drop (c.args.at + 1) c.args.indexes.now in
    let next = drop_next c.args.indexes.now c.args.at 0 c.if-at-indexes.false in
    let inode = subst (λ (p : Part g.row.R.Denot). IsPart (deepest - depth) depth steps p) c.in-Inode.is is in
    let lt : depth < 51 = is_above depth steps c.in-Inode.known c.in-Inode.count c.in-Inode.children inode in
    let within : i < length c.in-Inode.children.items = omega (arith, c.if-index-len.false, c.len.ensures, c.in-Inode.children.ok.0) in
    let below = child_at depth steps c.in-Inode.known c.in-Inode.count c.in-Inode.children lt inode i c.index_mut.result.now within c.index_mut.ensures.value in
    let taken = subst (λ (p : Part g.row.R.Denot). IsPart (deepest - (depth + 1)) (depth + 1) (steps_at depth i steps) p) (sym c.replace-below.ensures.value) below in
    let read = slice_get-get_or c.in-Inode.children.items i c.index_mut.result.now within ∙ ap Some (sym c.index_mut.ensures.value) ∙ ap Some (sym c.replace-below.ensures.value) in
    let deeper = into_child c.in-Inode.known c.in-Inode.count c.in-Inode.children i rest r c.args.part c.replace-below.result c.in-Inode.is read (subst (λ w. unread_in w c.args.part ≡ Some (r, [])) next found) in
    let new = view.Inode c.in-Inode.known c.in-Inode.count (with_item (with_item c.in-Inode.children i c.replace-below.new.dest) i c.entered.result) in
    let put = spelled_by r (length (steps_under depth (i ∷ rest) steps)) c.args.content in
    subst (λ w. IsEntered w (spelled_by r (length (steps_under depth w steps)) c.args.content) c.args.part new) (sym next)
    (subst (λ (p : Part g.row.R.Denot). IsEntered (i ∷ rest) put p new) (sym c.in-Inode.is)
    (inode_entered c.in-Inode.known c.in-Inode.count c.in-Inode.children i c.replace-below.new.dest c.replace-below.result c.entered.result within read rest put
    (entered_next depth i rest steps r c.args.content c.replace-below.result c.entered.result (c.entered.ensures.put (depth + 1) (steps_at depth i steps) r (omega (arith, lt)) taken deeper))))

pub returns-then-at-indexes-2-clause-put : goal.returns-then-at-indexes-2-clause-put
returns-then-at-indexes-2-clause-put g n c depth steps r le is found =
    let next = drop_next c.args.indexes.now c.args.at 0 c.if-at-indexes-2.true in
    absurd (past_unread c.in-Unread.record c.in-Unread.count (slice_index_or c.args.indexes.now c.args.at 0) (drop (c.args.at + 1) c.args.indexes.now) r c.args.part c.in-Unread.is
    (subst (λ w. unread_in w c.args.part ≡ Some (r, [])) next found))

pub returns-else-at-indexes-2-clause-shape : goal.returns-else-at-indexes-2-clause-shape
returns-else-at-indexes-2-clause-shape g n c depth steps r le is found stands =
    let none = drop_end c.args.indexes.now c.args.at c.if-at-indexes-2.false in
    let counts = unread_counts (deepest - depth) depth steps c.in-Unread.record c.in-Unread.count (subst (λ (p : Part g.row.R.Denot). IsPart (deepest - depth) depth steps p) c.in-Unread.is is) in
    let same = same_record c.in-Unread.record c.in-Unread.count r c.args.part c.in-Unread.is (subst (λ w. unread_in w c.args.part ≡ Some (r, [])) none found) in
    shape_here depth c.in-Unread.count steps c.in-Unread.record r c.args.content c.spelled.result counts same c.spelled.ensures
    (subst (λ w. Steps depth w steps (spelled_by r (length (steps_under depth w steps)) c.args.content)) none stands)

pub returns-else-at-indexes-2-clause-put : goal.returns-else-at-indexes-2-clause-put
returns-else-at-indexes-2-clause-put g n c depth steps r le is found =
    let none = drop_end c.args.indexes.now c.args.at c.if-at-indexes-2.false in
    let counts = unread_counts (deepest - depth) depth steps c.in-Unread.record c.in-Unread.count (subst (λ (p : Part g.row.R.Denot). IsPart (deepest - depth) depth steps p) c.in-Unread.is is) in
    let same = same_record c.in-Unread.record c.in-Unread.count r c.args.part c.in-Unread.is (subst (λ w. unread_in w c.args.part ≡ Some (r, [])) none found) in
    subst (λ w. IsEntered w (spelled_by r (length (steps_under depth w steps)) c.args.content) c.args.part c.spelled.result) (sym none)
    (entered_here c.in-Unread.count steps c.in-Unread.record r c.args.content c.args.part c.spelled.result counts same c.spelled.ensures)
