use Rattle.std.proofs.Common.{ap, refl, sym, ◌∙◌, Some}
use Rattle.std.specs.FinMap.Entries.{find}
use Rattle.ip_shape.specs.Directory.{entries_in}
use Rattle.ip_shape.proofs.Ways.{on_ok}
use Rattle.ip_spec.specs.Path.{bytes_cmp, same_bytes}
use Rattle.ip_differ.specs.Sides.{with_side}
use Rattle.ip_differ.proofs.Leaves.{step_none, step_put}
use Rattle.ip_differ.proofs.put.put_step.Goals as goal

pub returns-in-Some : goal.returns-in-Some
returns-in-Some c =
    let k = c.args.step.now in
    let es = entries_in c.args.dir.now in
    let old = c.args.found.now.entries in
    on_ok c.put_read.result _ _
    (λ puts s. puts s ∙ ap (λ o. with_side c.args.side o (find bytes_cmp s old)) (step_put (same_bytes s k) s k es (Some c.in-Some.field-0.now) refl (sym c.in-Some.ensures.held))) c.put_read.ensures

pub returns-in-None : goal.returns-in-None
returns-in-None c =
    let k = c.args.step.now in
    let es = entries_in c.args.dir.now in
    let old = c.args.found.now.entries in
    λ s. ap (λ o. with_side c.args.side o (find bytes_cmp s old)) (step_none (same_bytes s k) s k es refl (sym c.in-None.ensures.held))
