use Rattle.ip_app.proofs.SummaryLemmas.{says_longer, says_both}
use Rattle.ip_app.proofs.load.say_both.Goals as goal

pub returns-in-Ok-clause-does : goal.returns-in-Ok-clause-does
returns-in-Ok-clause-does g c told = says_both _ _ _ _ _ _ (c.in-Ok.ensures.does told) (c.say-in-Ok.ensures.does told)

pub returns-in-Err-clause-does : goal.returns-in-Err-clause-does
returns-in-Err-clause-does g c told = says_longer _ _ _ _ _ (c.in-Err.ensures.does told)
