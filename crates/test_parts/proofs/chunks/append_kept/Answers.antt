use Rattle.std.proofs.Common.{inr, refl}
use Rattle.ip_chunks.proofs.Bytes.{no_gap_from}
use Rattle.ip_chunks.proofs.Behind.{no_gap_before, stops_at_append, appends_kept}
use Rattle.test_parts.proofs.chunks.append_kept.Goals as goal

pub returns-in_err-append : goal.returns-in_err-append
returns-in_err-append g c told holds =
    let no_gap = no_gap_before c.args.chunks.size c.args.from _ _ c.requires.begins (no_gap_from c.args.chunks.size c.args.from c.args.front.now _ holds) in
    stops_at_append c.args.chunks.size c.args.from _ c.args.front.now c.args.bytes.now refl _ _ holds _ (c.append.ensures.does told no_gap) _ c.from_residual.ensures.0

pub returns : goal.returns
returns g c told holds =
    let no_gap = no_gap_before c.args.chunks.size c.args.from _ _ c.requires.begins (no_gap_from c.args.chunks.size c.args.from c.args.front.now _ holds) in
    appends_kept c.args.chunks.size c.args.from _ c.args.front.now c.args.bytes.now refl _ _ _ holds (c.in_ok-append.ensures.does told no_gap) _ (c.sync_range.ensures.does told) _ (inr refl)
