use Rattle.std.proofs.Common.{arith}
use Rattle.ip_worker.proofs.Ending.{ended_half, ended}
use Rattle.ip_worker.proofs.attempt.write_done.Goals as goal

pub returns-in_err-sync-clause-ends : goal.returns-in_err-sync-clause-ends
returns-in_err-sync-clause-ends g c told free gone = ended_half c.args.attempt _ _ _ free (c.in_ok-write.ensures.only told) _ _ c.from_residual-in_err-sync.ensures.0 (c.sync.ensures.does told)

pub returns-clause-ends : goal.returns-clause-ends
returns-clause-ends g c told free gone = ended c.args.attempt _ _ _ free (c.in_ok-write.ensures.only told) gone (c.in_ok-write.ensures.does told (omega arith)) (c.in_ok-sync.ensures.does told)
