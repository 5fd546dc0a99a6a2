use Rattle.std.proofs.Common.{refl, ap, ◌∙◌, List, arith, ◌-◌, length}
use Rattle.std.specs.Prelude.{None}
use Rattle.ip_spec.specs.Path.{Step}
use Rattle.ip_spec.specs.Shape.{deepest}
use Rattle.ip_shape.specs.Shape.{add}
use Rattle.ip_shape.proofs.Shapes.{leaf_holds, leaf_made, deepest_made}
use Rattle.ip_shape.proofs.Steps.{length-add}
use Rattle.ip_shape.proofs.Ways.{fresh_leaf, leaf_unchanged}
use Rattle.ip_shape.proofs.part.leaf_with.Goals.{then-len-lt-LEAF_ENTRIES_MAX-via-then-len-lt-LEAF_ENTRIES_MAX, then-len-lt-LEAF_ENTRIES_MAX-via-else-len-lt-LEAF_ENTRIES_MAX+then-depth-ge-DEEPEST}
use Rattle.ip_shape.proofs.part.leaf_with.Goals as goal

pub returns-in-Ok-clause-added : goal.returns-in-Ok-clause-added
returns-in-Ok-clause-added g c steps is =
    let held = leaf_holds (deepest - c.args.depth) c.args.depth steps c.args.known c.args.leaf is in
    let new = c.in-Ok.ensures.added ∙ ap (add c.args.step.now) held in
    elim c.then-len-lt-LEAF_ENTRIES_MAX.branch [
      | then-len-lt-LEAF_ENTRIES_MAX-via-then-len-lt-LEAF_ENTRIES_MAX w ↦
          let few = w.if-len-lt-LEAF_ENTRIES_MAX.true in
          leaf_made (deepest - c.args.depth) c.args.depth (add c.args.step.now steps) None c.add_to.new.steps (omega (arith, few, c.len.ensures, c.args.leaf.ok.0, ap (λ (ss : List Step). length ss) held, (length-add c.args.step.now steps).1)) new
      | then-len-lt-LEAF_ENTRIES_MAX-via-else-len-lt-LEAF_ENTRIES_MAX+then-depth-ge-DEEPEST w ↦
          deepest_made (deepest - c.args.depth) c.args.depth (add c.args.step.now steps) None c.add_to.new.steps (omega (arith, w.if-depth-ge-DEEPEST.true)) new
    ]

pub returns-in-Ok-clause-fresh : goal.returns-in-Ok-clause-fresh
returns-in-Ok-clause-fresh g c = fresh_leaf None c.add_to.new.steps refl

pub returns-in-Err-clause-left : goal.returns-in-Err-clause-left
returns-in-Err-clause-left g c = leaf_unchanged c.args.known c.args.leaf c.add_to.new.steps

pub returns-in-Err-grown-clause-left : goal.returns-in-Err-grown-clause-left
returns-in-Err-grown-clause-left g c = leaf_unchanged c.args.known c.args.leaf c.args.leaf
