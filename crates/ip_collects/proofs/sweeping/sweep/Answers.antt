use Rattle.ip_collects.proofs.Swept.{store_swept}
use Rattle.ip_collects.proofs.sweeping.sweep.Goals as goal

pub returns-after-store-eq0-clause-does : goal.returns-after-store-eq0-clause-does
returns-after-store-eq0-clause-does g c told =
    store_swept c.args.store.now.slot c.args.store.now.unswept c.sweep-few.result c.sweep_attempts.result c.saturating_add-left.result _ _ _ c.saturating_add-left.ensures (c.sweep-few.ensures.does told) (c.sweep_attempts.ensures.does told)

pub returns-else-left-eq0-clause-does : goal.returns-else-left-eq0-clause-does
returns-else-left-eq0-clause-does g c told =
    store_swept c.args.store.now.slot c.args.store.now.unswept c.sweep-few.result c.sweep_attempts.result c.saturating_add-left.result _ _ _ c.saturating_add-left.ensures (c.sweep-few.ensures.does told) (c.sweep_attempts.ensures.does told)
