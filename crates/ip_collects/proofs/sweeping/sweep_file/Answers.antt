use Rattle.ip_collects.proofs.Swept.{was_removed, not_removed}
use Rattle.ip_collects.proofs.sweeping.sweep_file.Goals as goal

pub returns-in-Ok-clause-does : goal.returns-in-Ok-clause-does
returns-in-Ok-clause-does g c told = was_removed c.args.file c.in-Ok.field-0 _ _ (c.in-Ok.ensures.does told)

pub returns-in-Err-clause-does : goal.returns-in-Err-clause-does
returns-in-Err-clause-does g c told = not_removed c.args.file c.in-Err.field-0 _ _ (c.in-Err.ensures.does told)
