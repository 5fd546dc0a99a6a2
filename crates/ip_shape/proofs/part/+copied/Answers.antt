use Rattle.std.proofs.Common.{◌≡◌, ◌<◌, ◌-◌, ◌+◌, ℕ, List, length, ◌∙◌, subst, sym, arith, refl}
use Rattle.std.specs.Prelude.{slice_get, Some}
use Rattle.ip_spec.specs.Path.{Step}
use Rattle.ip_spec.specs.Shape.{deepest}
use Rattle.ip_shape.specs.Loaded.{IsUnchanged}
use Rattle.ip_shape.specs.Shape.{IsPart, steps_at}
use Rattle.ip_shape.specs.declared.part.Part.{Part}
use Rattle.ip_shape.specs.declared.part.Part.TheVariants as variant
use Rattle.ip_shape.specs.declared.part.Part.TheViews as view
use Rattle.ip_shape.proofs.Edits.{child_at}
use Rattle.ip_shape.proofs.Shapes.{Children, inode_from, inode_holds, leaf_again}
use Rattle.ip_shape.proofs.Ways.{found_is, grown_by, inode_copied, leaf_unchanged, longer}
use Rattle.ip_shape.proofs.part.+copied.Goals as goal

pub returns-in_ok-copies_of-in-Leaf-clause-shape : goal.returns-in_ok-copies_of-in-Leaf-clause-shape
returns-in_ok-copies_of-in-Leaf-clause-shape g n c steps is =
    let held = c.in-Leaf.steps in
    leaf_again (deepest - c.args.depth) c.args.depth steps c.in-Leaf.known c.in-Leaf.known held c.in_ok-copies_of-in-Leaf.field-0 (c.in_ok-copies_of-in-Leaf.ensures ∙ c.deref.ensures.value)
    (subst (λ (p : Part g.row.R.Denot). IsPart (deepest - c.args.depth) c.args.depth steps p) c.in-Leaf.is is)

pub returns-in_ok-copies_of-in-Leaf-clause-same : goal.returns-in_ok-copies_of-in-Leaf-clause-same
returns-in_ok-copies_of-in-Leaf-clause-same g n c =
    subst (λ (p : Part g.row.R.Denot). IsUnchanged p (variant.Leaf c.in-Leaf.known c.in_ok-copies_of-in-Leaf.field-0)) (sym c.in-Leaf.is)
    (leaf_unchanged c.in-Leaf.known c.in-Leaf.steps c.in_ok-copies_of-in-Leaf.field-0)

pub loop-i-preserved : goal.loop-i-preserved
loop-i-preserved g n c =
    let depth = c.args.depth in
    let i = c.loop-i.i in
    let old = c.loop-i.copies.items in
    let children = c.in-Inode.children in
    let copy = c.in_ok-copied-in-Inode.field-0 in
    let child : Part g.row.R.Denot = c.index.result.now in
    let within : i < length children.items = omega arith in
    let long : length old ≡ i = c.loop-i.invariant.0 in
    let items = c.in_ok-push-in-Inode.ensures.items in
    let lt : depth < 51 = c.if-depth-ge-DEEPEST.false in
    let same : (x : Part g.row.R.Denot) → slice_get children.items (length old) ≡ Some x → IsUnchanged x copy =
    λ x e. subst (λ (p : Part g.row.R.Denot). IsUnchanged p copy) (found_is children.items (length old) i child x long within c.index.ensures e) c.in_ok-copied-in-Inode.ensures.same in
    let shape : (steps : List Step) → IsPart (deepest - depth) depth steps c.args.part.now → IsPart (deepest - (depth + 1)) (depth + 1) (steps_at depth (length old) steps) copy =
    λ steps is.
    let stands = subst (λ (p : Part g.row.R.Denot). IsPart (deepest - depth) depth steps p) c.in-Inode.is is in
    subst (λ j. IsPart (deepest - (depth + 1)) (depth + 1) (steps_at depth j steps) copy) (sym long)
    (c.in_ok-copied-in-Inode.ensures.shape (steps_at depth i steps) (child_at depth steps c.in-Inode.known c.in-Inode.count children lt stands i child within c.index.ensures)) in (
      longer old c.push.new.self.items copy i items long,
      subst (λ (ps : List (Part g.row.R.Denot)). (j : ℕ) (x : Part g.row.R.Denot) → slice_get ps j ≡ Some x → (y : Part g.row.R.Denot) → slice_get children.items j ≡ Some y → IsUnchanged y x) (sym items)
          (grown_by (λ j x. (y : Part g.row.R.Denot) → slice_get children.items j ≡ Some y → IsUnchanged y x) old copy c.loop-i.invariant.1 same),
      λ steps is.
          subst (Children depth steps) (sym items)
          (grown_by (λ j x. IsPart (deepest - (depth + 1)) (depth + 1) (steps_at depth j steps) x) old copy (c.loop-i.invariant.2 steps is) (shape steps is)),
    )

pub returns-after-loop-i-clause-shape : goal.returns-after-loop-i-clause-shape
returns-after-loop-i-clause-shape g n c steps is =
    let depth = c.args.depth in
    let lt : depth < 51 = c.if-depth-ge-DEEPEST.false in
    let stands = subst (λ (p : Part g.row.R.Denot). IsPart (deepest - depth) depth steps p) c.in-Inode.is is in
    let held = inode_holds depth steps c.in-Inode.known c.in-Inode.count c.in-Inode.children lt stands in
    inode_from depth steps c.in-Inode.known c.in-Inode.count c.loop-i.copies lt held.0 held.1 (omega (arith, held.2, c.loop-i.invariant.0)) (c.loop-i.invariant.2 steps is)

pub returns-after-loop-i-clause-same : goal.returns-after-loop-i-clause-same
returns-after-loop-i-clause-same g n c =
    subst (λ (p : Part g.row.R.Denot). IsUnchanged p (view.Inode c.in-Inode.known c.in-Inode.count c.loop-i.copies)) (sym c.in-Inode.is)
    (inode_copied c.in-Inode.known c.in-Inode.count c.in-Inode.children c.loop-i.copies (omega (arith, c.loop-i.invariant.0)) c.loop-i.invariant.1)

pub returns-in-Unread-clause-shape : goal.returns-in-Unread-clause-shape
returns-in-Unread-clause-shape g n c steps is = subst (λ (p : Part g.row.R.Denot). IsPart (deepest - c.args.depth) c.args.depth steps p) c.in-Unread.is is

pub returns-in-Unread-clause-same : goal.returns-in-Unread-clause-same
returns-in-Unread-clause-same g n c = subst (λ (p : Part g.row.R.Denot). IsUnchanged p (variant.Unread c.in-Unread.record c.in-Unread.count)) (sym c.in-Unread.is) (λ _. (refl, refl))
