use Rattle.ip_history.proofs.Shown.{shown}
use Rattle.ip_history.proofs.histories.Goals as goal

pub returns : goal.returns
returns c = shown
