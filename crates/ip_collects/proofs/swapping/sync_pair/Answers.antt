use Rattle.ip_collects.proofs.Ended.{pair_cut, pair_synced}
use Rattle.ip_collects.proofs.swapping.sync_pair.Goals as goal

pub returns-in_err-sync-clause-does : goal.returns-in_err-sync-clause-does
returns-in_err-sync-clause-does g c told pair is = pair_cut c.args.attempt _ _ pair is _ _ c.from_residual.ensures.0 (c.sync.ensures.does told)

pub returns-clause-does : goal.returns-clause-does
returns-clause-does g c told pair is = pair_synced c.args.attempt _ _ pair is _ tt _ (c.in_ok-sync.ensures.does told) (c.sync-2.ensures.does told)
