use Rattle.ip_worker.proofs.Ending.{pair_refused, pair_half, pair_synced}
use Rattle.ip_worker.proofs.attempt.sync_pair.Goals as goal

pub returns-in_err-sync-clause-syncs : goal.returns-in_err-sync-clause-syncs
returns-in_err-sync-clause-syncs g c told free = pair_refused c.args.attempt _ _ _ _ c.from_residual.ensures.0 free (c.in_err-sync.ensures.does told)

pub returns-in_err-sync-2-clause-syncs : goal.returns-in_err-sync-2-clause-syncs
returns-in_err-sync-2-clause-syncs g c told free = pair_half c.args.attempt _ _ _ _ _ c.from_residual-in_err-sync-2.ensures.0 free (c.in_ok-sync.ensures.does told) (c.in_err-sync-2.ensures.does told)

pub returns-clause-syncs : goal.returns-clause-syncs
returns-clause-syncs g c told free = pair_synced c.args.attempt _ _ _ free (c.in_ok-sync.ensures.does told) (c.in_ok-sync-2.ensures.does told)
