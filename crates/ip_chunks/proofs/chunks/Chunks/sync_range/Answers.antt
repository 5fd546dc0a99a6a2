use Rattle.std.proofs.Common.{◌∙◌, arith}
use Rattle.ip_chunks.proofs.Borders.{some_size}
use Rattle.ip_chunks.proofs.Syncing.{one_synced, sync_failed, one_kept, all_synced}
use Rattle.ip_chunks.proofs.chunks.Chunks.sync_range.Goals as goal

pub returns-in_err-sync-clause-does : goal.returns-in_err-sync-clause-does
returns-in_err-sync-clause-does g c told =
    let size = c.args.self.now.size in
    let kept = c.loop-number.invariant in
    sync_failed size c.args.from c.args.to (some_size size c.requires.allowed) c.if-from-to.false c.loop-number.number kept.from (omega arith) _ _ _ (kept.only told) c.sync.result (c.sync.ensures.does told) c.from_residual.result
    c.from_residual.ensures.0

pub loop-number-preserved : goal.loop-number-preserved
loop-number-preserved g c =
    let size = c.args.self.now.size in
    let kept = c.loop-number.invariant in
    record {
      from = omega (arith, kept.from);
      only = λ told. one_synced size c.args.from c.args.to (some_size size c.requires.allowed) c.if-from-to.false c.loop-number.number kept.from (omega arith) _ _ _ (kept.only told) c.sync.result (c.sync.ensures.does told);
      kept = λ told. one_kept _ c.loop-number.number _ _ (c.in_ok-sync.ensures.does told) (kept.kept told);
      counts = c.in_ok-sync.ensures.counts ∙ kept.counts;
    }

pub returns-clause-does : goal.returns-clause-does
returns-clause-does g c told =
    let size = c.args.self.now.size in
    let kept = c.loop-number.invariant in
    all_synced size c.args.from c.args.to c.loop-number.number (some_size size c.requires.allowed) (omega arith) _ _ (kept.only told) (kept.kept told)
