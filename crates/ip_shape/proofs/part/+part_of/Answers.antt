use Rattle.std.proofs.Common.{arith, refl, length, List, ℕ, ◌≡◌, ◌+◌, ◌-◌, subst, sym, ap, ◌∙◌}
use Rattle.std.specs.Prelude.{None, slice_get, Some}
use Rattle.ip_spec.specs.Path.{Step}
use Rattle.ip_spec.specs.Shape.{deepest}
use Rattle.ip_shape.specs.Shape.{IsPart, steps_at}
use Rattle.ip_shape.specs.Loaded.{IsFresh}
use Rattle.ip_shape.specs.declared.part.Part.{Part}
use Rattle.ip_shape.proofs.Shapes.{inode_from, Children}
use Rattle.ip_shape.proofs.Ways.{fresh_leaf, fresh_inode, grown_by, longer}
use Rattle.ip_shape.proofs.part.+part_of.Goals as goal

pub loop-index-preserved : goal.loop-index-preserved
loop-index-preserved g n c =
    let depth = c.args.depth in
    let steps = c.args.steps.now in
    let old = c.loop-index.children.items in
    let part = c.in_ok-part_of.field-0 in
    let long = c.loop-index.invariant.0 in
    let items = c.in_ok-push.ensures.items in
    let here : IsPart (deepest - (depth + 1)) (depth + 1) (steps_at depth (length old) steps) part =
    subst (λ (ss : List Step). IsPart (deepest - (depth + 1)) (depth + 1) ss part)
    (c.deref.ensures.value ∙ c.in_ok-below.ensures.0 ∙ ap (λ i. steps_at depth i steps) (sym long)) c.in_ok-part_of.ensures.shape in (
      longer old c.push.new.self.items part c.loop-index.index items long,
      subst (Children depth steps) (sym items) (grown_by (λ i child. IsPart (deepest - (depth + 1)) (depth + 1) (steps_at depth i steps) child) old part c.loop-index.invariant.1 here),
      subst (λ (ps : List (Part g.row.R.Denot)). (i : ℕ) (child : Part g.row.R.Denot) → slice_get ps i ≡ Some child → IsFresh child) (sym items)
          (grown_by (λ i child. IsFresh child) old part c.loop-index.invariant.2 c.in_ok-part_of.ensures.fresh),
    )

pub returns-then-steps-le-LEAF_ENTRIES_MAX-clause-fresh : goal.returns-then-steps-le-LEAF_ENTRIES_MAX-clause-fresh
returns-then-steps-le-LEAF_ENTRIES_MAX-clause-fresh g n c = fresh_leaf None c.in_ok-copies_of.field-0 refl

pub returns-clause-shape : goal.returns-clause-shape
returns-clause-shape g n c = inode_from c.args.depth c.args.steps.now None (length c.args.steps.now) c.loop-index.children (omega arith) (omega arith) refl (omega arith) c.loop-index.invariant.1

pub returns-clause-fresh : goal.returns-clause-fresh
returns-clause-fresh g n c = fresh_inode None (length c.args.steps.now) c.loop-index.children refl c.loop-index.invariant.2
