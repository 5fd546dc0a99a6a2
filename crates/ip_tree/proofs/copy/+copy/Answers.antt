use Rattle.std.proofs.Common.{◌≡◌, ◌∷◌, ◌++◌, [], List, append_assoc, ap, subst, sym, ◌∙◌}
use Rattle.std.proofs.lemmas.List.{append-nil}
use Rattle.ip_shape.specs.Directory.{entries_in}
use Rattle.ip_spec.specs.Path.{Step}
use Rattle.ip_tree.specs.declared.node.Node.{Node}
use Rattle.ip_tree.proofs.Copies.{AreCopies, copied, copies_push}
use Rattle.ip_tree.proofs.copy.+copy.Goals as goal

pub copy_directory-loop-step-init : goal.copy_directory-loop-step-init
copy_directory-loop-step-init t c = ([], c.into_iter-step-iterator.ensures.into_iter_gives.0 ∙ c.entries-step-items.ensures.held, subst (AreCopies []) (sym c.in_ok-entries.ensures.items) tt)

pub copy_directory-loop-step-preserved : goal.copy_directory-loop-step-preserved
copy_directory-loop-step-preserved t c =
    let inv = c.loop-step.invariant in
    let x : Step × Node = (c.in-Some.step.now, c.in-Some.node.now) in
    let y : Step × Node = (c.in_ok-copy.field-0, c.in_ok-copy_node.field-0) in (
      inv.0 ++ x ∷ [],
      append_assoc inv.0 (x ∷ []) c.next.new.self ∙ ap (λ (l : List (Step × Node)). inv.0 ++ l) (sym c.in-Some.ensures.steps) ∙ inv.1,
      subst (AreCopies (inv.0 ++ x ∷ [])) (sym c.in_ok-push.ensures.items) (copies_push inv.0 c.loop-step.entries.items x y inv.2 c.in_ok-copy.ensures c.in_ok-copy_node.ensures),
    )

pub copy_directory-returns : goal.copy_directory-returns
copy_directory-returns t c =
    let inv = c.loop-step.invariant in
    let d = c.args.dir.now in
    let whole : inv.0 ≡ entries_in d = sym (append-nil inv.0) ∙ ap (λ (l : List (Step × Node)). inv.0 ++ l) (sym c.in-None.ensures.steps.0) ∙ inv.1 in
    copied d c.loop-step.entries.items c.copy_with.result (subst (λ (l : List (Step × Node)). AreCopies l c.loop-step.entries.items) whole inv.2) c.copy_with.ensures.partly c.copy_with.ensures.same
