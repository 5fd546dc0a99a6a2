use Rattle.std.proofs.Common.{◌<◌, ◌-◌, ap, ◌∙◌, sym, subst, arith, length, List, ℕ}
use Rattle.std.specs.Prelude.{Some, None, option_map}
use Rattle.std.proofs.lemmas.Option.{slice_get-get_or}
use Rattle.ip_spec.specs.Shape.{deepest}
use Rattle.ip_shape.specs.Shape.{IsPart, steps_at}
use Rattle.ip_shape.specs.Loaded.{IsRead}
use Rattle.ip_shape.specs.Reading.{IsFirstBelow}
use Rattle.ip_shape.specs.declared.part.Part.{Part}
use Rattle.ip_shape.proofs.Edits.{child_at}
use Rattle.ip_shape.proofs.Needs.{first_below}
use Rattle.ip_shape.proofs.Shapes.{inode_holds}
use Rattle.ip_shape.proofs.Ways.{found_below, one_more_read, read_inode, unread_leaf}
use Rattle.ip_shape.proofs.reading.+first_below.Goals as goal

pub returns-in-Some : goal.returns-in-Some
returns-in-Some g n c steps le is =
    let depth = c.args.depth in
    let i = c.loop-index.index in
    let lt : depth < 51 = c.if-depth-ge-DEEPEST.false in
    let inode = subst (λ (p : Part g.row.R.Denot). IsPart (deepest - depth) depth steps p) c.in-Inode.is is in
    let within : i < length c.in-Inode.children.items = omega (arith, c.if-index-len.false, c.len.ensures, c.in-Inode.children.ok.0) in
    let child = c.index.result.now in
    let read = slice_get-get_or c.in-Inode.children.items i child within ∙ ap Some (sym c.index.ensures) in
    let below = child_at depth steps c.in-Inode.known c.in-Inode.count c.in-Inode.children lt inode i child within c.index.ensures in
    let deeper = c.in_ok-found-in-Inode.ensures (steps_at depth i steps) (omega (arith, lt)) below in
    first_below c.in-Inode.known c.in-Inode.count c.in-Inode.children c.args.part.now child i c.in-Inode.is read None c.in-Some.indexes.items c.push.new.self.items c.in-Some.record.now c.in_ok-push-in-Inode.ensures.items
    (subst (λ o. IsFirstBelow child (option_map {U = List ℕ × g.row.R.Denot} (λ f. (f.0.items, f.1.now)) o)) c.in-Some.is deeper)

pub loop-index-preserved : goal.loop-index-preserved
loop-index-preserved g n c steps le is =
    let depth = c.args.depth in
    let i = c.loop-index.index in
    let lt : depth < 51 = c.if-depth-ge-DEEPEST.false in
    let inode = subst (λ (p : Part g.row.R.Denot). IsPart (deepest - depth) depth steps p) c.in-Inode.is is in
    let within : i < length c.in-Inode.children.items = omega (arith, c.if-index-len.false, c.len.ensures, c.in-Inode.children.ok.0) in
    let child = c.index.result.now in
    let below = child_at depth steps c.in-Inode.known c.in-Inode.count c.in-Inode.children lt inode i child within c.index.ensures in
    let deeper = c.in_ok-found-in-Inode.ensures (steps_at depth i steps) (omega (arith, lt)) below in
    one_more_read c.in-Inode.children.items i child within c.index.ensures (c.loop-index.invariant steps le is)
    (subst (λ o. IsFirstBelow child (option_map {U = List ℕ × g.row.R.Denot} (λ f. (f.0.items, f.1.now)) o)) c.in_default.is deeper)

pub returns-in-Leaf : goal.returns-in-Leaf
returns-in-Leaf g n c steps le is = subst (λ (p : Part g.row.R.Denot). IsRead p) (sym c.in-Leaf.is) (unread_leaf c.in-Leaf.known c.in-Leaf.steps)

pub returns-after-loop-index : goal.returns-after-loop-index
returns-after-loop-index g n c steps le is =
    let depth = c.args.depth in
    let lt : depth < 51 = c.if-depth-ge-DEEPEST.false in
    let inode = subst (λ (p : Part g.row.R.Denot). IsPart (deepest - depth) depth steps p) c.in-Inode.is is in
    let long = (inode_holds depth steps c.in-Inode.known c.in-Inode.count c.in-Inode.children lt inode).2 in
    subst (λ (p : Part g.row.R.Denot). IsRead p) (sym c.in-Inode.is)
    (read_inode c.in-Inode.known c.in-Inode.count c.in-Inode.children
    (λ k child e. c.loop-index.invariant steps le is k child (omega (arith, found_below c.in-Inode.children.items k child e, long)) e))
