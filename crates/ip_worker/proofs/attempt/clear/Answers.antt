use Rattle.ip_worker.proofs.Ending.{clear_two, clear_three, clear_all}
use Rattle.ip_worker.proofs.attempt.clear.Goals as goal

pub returns-in_err-remove-2-clause-clears : goal.returns-in_err-remove-2-clause-clears
returns-in_err-remove-2-clause-clears g c told free =
    clear_two c.args.attempt _ _ _ c.from_residual-in_err-remove-2.ensures.0 _ _ _ free (c.remove.ensures.does told) (c.remove-2.ensures.does told)

pub returns-in_err-remove-3-clause-clears : goal.returns-in_err-remove-3-clause-clears
returns-in_err-remove-3-clause-clears g c told free =
    clear_three c.args.attempt _ _ _ _ c.from_residual-in_err-remove-3.ensures.0 _ _ _ _ free (c.remove.ensures.does told) (c.remove-2.ensures.does told) (c.remove-3.ensures.does told)

pub returns-clause-clears : goal.returns-clause-clears
returns-clause-clears g c told free = clear_all c.args.attempt _ _ _ _ free (c.in_ok-remove.ensures.does told) (c.in_ok-remove-2.ensures.does told) (c.in_ok-remove-3.ensures.does told)
