use Rattle.std.proofs.Common.{ap, ◌∙◌}
use Rattle.std.specs.FinMap.Entries.{find}
use Rattle.ip_spec.specs.Path.{bytes_cmp}
use Rattle.ip_shape.proofs.Entries.{put_is}
use Rattle.ip_differ.specs.Sides.{set_side}
use Rattle.ip_differ.proofs.Leaves.{put_told}
use Rattle.ip_differ.proofs.pairs.put_entry.Goals as goal

pub returns : goal.returns
returns c =
    let old = c.args.found.now.entries in
    let pair = c.with_entry-pair.result in
    λ s. ap (find bytes_cmp s) (c.in_ok-insert.ensures.entries ∙ put_is c.args.step pair old)
    ∙ put_told c.args.side c.args.step c.args.entry pair old (c.with_entry-pair.ensures ∙ ap (set_side c.args.side c.args.entry) c.pair_at.ensures) s
