use Rattle.std.proofs.Common.{ap, ◌∙◌, Some, None, cond}
use Rattle.std.specs.FinMap.Entries.{find}
use Rattle.ip_shape.proofs.Ways.{on_ok}
use Rattle.ip_spec.specs.Path.{Step, bytes_cmp, same_bytes}
use Rattle.ip_differ.specs.Sides.{with_side}
use Rattle.ip_differ.specs.declared.pairs.Entry.TheVariants as entry
use Rattle.ip_differ.proofs.put.put_read.Goals as goal

pub returns : goal.returns
returns c =
    on_ok c.put_entry.result _ _
    (λ puts s. puts s ∙ ap (λ (t : Step). with_side c.args.side (cond (same_bytes s t) (Some entry.Read) None) (find bytes_cmp s c.args.found.now.entries)) c.in_ok-copy.ensures) c.put_entry.ensures
