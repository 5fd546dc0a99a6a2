use Rattle.std.proofs.Common.{◌<◌, ◌-◌, ◌+◌, List, subst, sym, arith}
use Rattle.ip_spec.specs.Path.{Step}
use Rattle.ip_spec.specs.Shape.{deepest}
use Rattle.ip_shape.specs.Shape.{AreSteps, IsPart, steps_at}
use Rattle.ip_shape.specs.Loaded.{IsRead}
use Rattle.ip_shape.specs.declared.part.Part.{Part}
use Rattle.ip_shape.proofs.Edits.{child_at}
use Rattle.ip_shape.proofs.Gathering.{AreBelow, next_below, all_below}
use Rattle.ip_shape.proofs.Shapes.{inode_holds}
use Rattle.ip_shape.proofs.Ways.{found_below, one_more_read, read_inode, unread_leaf, whenever_ok}
use Rattle.ip_shape.proofs.part.+gather.Goals as goal

pub returns-in-Leaf-clause-read : goal.returns-in-Leaf-clause-read
returns-in-Leaf-clause-read g n c =
    whenever_ok c.add_all.result (IsRead c.args.part.now) (subst (λ (p : Part g.row.R.Denot). IsRead p) (sym c.in-Leaf.is) (unread_leaf c.in-Leaf.known c.in-Leaf.steps))

pub loop-i-preserved : goal.loop-i-preserved
loop-i-preserved g n c =
    let depth = c.args.depth in
    let old = c.args.into.now.items in
    let i = c.loop-i.i in
    let lt : depth < 51 = c.if-depth-ge-DEEPEST.false in
    let gathered : (steps : List Step) → IsPart (deepest - depth) depth steps c.args.part.now → AreSteps old → AreSteps c.gather.new.into.items × AreBelow depth (i + 1) steps old c.gather.new.into.items =
    λ steps is ascend.
    let stands = subst (λ (p : Part g.row.R.Denot). IsPart (deepest - depth) depth steps p) c.in-Inode.is is in
    let child = child_at depth steps c.in-Inode.known c.in-Inode.count c.in-Inode.children lt stands i c.index.result.now (omega arith) c.index.ensures in
    let before = c.loop-i.invariant.0 steps is ascend in
    let more = c.in_ok-gather-in-Inode.ensures.gathered (steps_at depth i steps) child before.0 in
    (more.0, next_below depth i steps old c.loop-i.into.items c.gather.new.into.items before.1 more.1) in
    (gathered, one_more_read c.in-Inode.children.items i c.index.result.now (omega arith) c.index.ensures c.loop-i.invariant.1 c.in_ok-gather-in-Inode.ensures.read)

pub returns-after-loop-i-clause-gathered : goal.returns-after-loop-i-clause-gathered
returns-after-loop-i-clause-gathered g n c steps is ascend =
    let depth = c.args.depth in
    let stands = subst (λ (p : Part g.row.R.Denot). IsPart (deepest - depth) depth steps p) c.in-Inode.is is in
    let lt : depth < 51 = c.if-depth-ge-DEEPEST.false in
    let long = (inode_holds depth steps c.in-Inode.known c.in-Inode.count c.in-Inode.children lt stands).2 in
    let last = c.loop-i.invariant.0 steps is ascend in
    (last.0, all_below depth c.loop-i.i steps c.args.into.now.items c.loop-i.into.items (omega (arith, long)) last.1)

pub returns-after-loop-i-clause-read : goal.returns-after-loop-i-clause-read
returns-after-loop-i-clause-read g n c =
    subst (λ (p : Part g.row.R.Denot). IsRead p) (sym c.in-Inode.is)
    (read_inode c.in-Inode.known c.in-Inode.count c.in-Inode.children (λ k child e. c.loop-i.invariant.1 k child (omega (arith, found_below c.in-Inode.children.items k child e)) e))
