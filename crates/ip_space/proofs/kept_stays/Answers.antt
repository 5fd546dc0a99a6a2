use Rattle.ip_space.proofs.Current.{same_below, current_grown}
use Rattle.ip_space.proofs.kept_stays.Goals as goal

pub returns-clause-below : goal.returns-clause-below
returns-clause-below c = same_below

pub returns-clause-current : goal.returns-clause-current
returns-clause-current c = current_grown
