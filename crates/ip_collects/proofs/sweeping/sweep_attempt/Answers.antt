use Rattle.std.proofs.Common.{rules}
use Rattle.ip_collects.proofs.Swept.{attempt_swept}
use Rattle.ip_collects.proofs.sweeping.sweep_attempt.Goals as goal

pub returns-clause-does : goal.returns-clause-does
returns-clause-does g c told =
    attempt_swept c.args.attempt c.args.live (search rules) _ _ _ _ _ _ _ _ _ c.saturating_add.ensures c.saturating_add-2.ensures (c.sweep_file-done.ensures.does told) (c.sweep_file-prefix.ensures.does told) (c.sweep_file-mapping.ensures.does told)
