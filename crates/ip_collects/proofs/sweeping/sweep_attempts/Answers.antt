use Rattle.std.proofs.Common.{arith, rules}
use Rattle.ip_collects.proofs.Swept.{next_swept, all_swept}
use Rattle.ip_collects.proofs.sweeping.sweep_attempts.Goals as goal

pub loop-attempt-preserved : goal.loop-attempt-preserved
loop-attempt-preserved g c =
    let kept = c.loop-attempt.invariant in
    record {
      within = (let low = kept.within in omega (arith, low));
      none = λ before. absurd (omega (arith, before, kept.none before, c.loop-attempt-test.true));
      does = λ told.
          next_swept c.args.from c.loop-attempt.attempt c.args.live kept.within c.loop-attempt.left c.sweep_attempt.result c.saturating_add-left.result _ _ _ c.saturating_add-left.ensures (kept.does told) (c.sweep_attempt.ensures.does told);
      counts = search rules;
    }

pub returns-clause-does : goal.returns-clause-does
returns-clause-does g c told =
    let kept = c.loop-attempt.invariant in
    all_swept c.args.from c.args.to c.loop-attempt.attempt c.args.live c.loop-attempt.left _ _ (omega arith) (λ some. omega (arith, some)) kept.none (kept.does told)
