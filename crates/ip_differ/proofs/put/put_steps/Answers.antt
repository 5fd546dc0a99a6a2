use Rattle.std.proofs.Common.{◌+◌, ◌∷◌, [], List, ap, drop, refl, sym, ◌∙◌, None, cond}
use Rattle.std.proofs.lemmas.List.{drop_all, drop_more}
use Rattle.std.specs.FinMap.Entries.{find}
use Rattle.std.specs.Prelude.{◌||◌, option_map}
use Rattle.ip_shape.specs.Directory.{entries_in}
use Rattle.ip_shape.specs.Shape.{has}
use Rattle.ip_spec.specs.Path.{Step, bytes_cmp, same_bytes}
use Rattle.ip_differ.specs.Pieces.{read_entry}
use Rattle.ip_differ.specs.Sides.{with_side}
use Rattle.ip_differ.proofs.Leaves.{front_all, front_more, steps_put}
use Rattle.ip_differ.proofs.put.put_steps.Goals as goal

pub loop-step-init : goal.loop-step-init
loop-step-init c = ([], λ s. refl, λ s. refl)

pub loop-step-preserved : goal.loop-step-preserved
loop-step-preserved c =
    let inv = c.loop-step.invariant in
    let items = c.args.steps.now in
    let i = c.loop-step.step-index in
    let k = c.step-item.result in
    let es = entries_in c.args.dir.now in
    let split = drop_more items i k c.loop-step-test.true ∙ ap (λ (t : Step). t ∷ drop (i + 1) items) (sym c.step-item.is) in (
      k ∷ inv.0,
      λ s. front_more s k inv.0 (drop (i + 1) items) items (ap (λ (l : List Step). has s inv.0 || has s l) (sym split) ∙ inv.1 s),
      λ s. c.in_ok-put_step.ensures s ∙ ap (with_side c.args.side (cond (same_bytes s k) (option_map read_entry (find bytes_cmp s es)) None)) (inv.2 s)
          ∙ steps_put c.args.side (option_map read_entry (find bytes_cmp s es)) (same_bytes s k) (has s inv.0) (find bytes_cmp s c.args.found.now.entries),
    )

pub returns : goal.returns
returns c =
    let inv = c.loop-step.invariant in
    let items = c.args.steps.now in
    let i = c.loop-step.step-index in
    let es = entries_in c.args.dir.now in
    let end = drop_all i items c.loop-step-test.false in
    λ s. inv.2 s
    ∙ ap (λ b. with_side c.args.side (cond b (option_map read_entry (find bytes_cmp s es)) None) (find bytes_cmp s c.args.found.now.entries))
    (front_all s inv.0 items (ap (λ (l : List Step). has s inv.0 || has s l) (sym end) ∙ inv.1 s))
