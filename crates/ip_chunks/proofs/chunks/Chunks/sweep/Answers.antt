use Rattle.std.proofs.Common.{inl, inr, sym, ◌∙◌, arith}
use Rattle.ip_chunks.proofs.Sweeping.{Counted, counted_few, sweeps_next, sweeps_all, counts_next}
use Rattle.ip_chunks.proofs.chunks.Chunks.sweep.Goals.{then-is_err, else-is_err}
use Rattle.ip_chunks.proofs.chunks.Chunks.sweep.Goals as goal

pub loop-number-preserved : goal.loop-number-preserved
loop-number-preserved g c =
    let kept = c.loop-number.invariant in
    let counted : Counted c.remove.result c.loop-number.left c.if-is_err.left = elim c.if-is_err.branch [
      | then-is_err w ↦ inr (sym c.is_err.ensures.value ∙ w.if-is_err.true, w.left-is)
      | else-is_err w ↦ inl (sym c.is_err.ensures.value ∙ w.if-is_err.false, w.left-is)
    ] in
    record {
      few = omega (arith, kept.few, counted_few c.remove.result c.loop-number.left c.if-is_err.left counted);
      none = λ before. absurd (omega (arith, before, kept.none before, c.loop-number-test.true));
      does = λ told.
          sweeps_next c.args.from c.loop-number.number c.loop-number.left c.if-is_err.left (omega arith) _ _ _ (kept.does told) c.remove.result (c.remove.ensures.does told) counted;
      counts = counts_next c.remove.result c.loop-number.left c.if-is_err.left _ _ _ kept.counts c.remove.ensures.counts counted;
    }

pub returns-clause-does : goal.returns-clause-does
returns-clause-does g c told =
    let kept = c.loop-number.invariant in
    sweeps_all c.args.from c.args.to c.loop-number.number c.loop-number.left _ _ (omega arith) (λ some. omega (arith, some)) kept.none (kept.does told)
