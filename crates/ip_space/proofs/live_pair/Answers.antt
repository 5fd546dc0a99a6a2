use Rattle.ip_space.proofs.Stretches.{damaged_by, one_rows, no_rows}
use Rattle.ip_space.proofs.live_pair.Goals as goal

pub returns-clause-damaged : goal.returns-clause-damaged
returns-clause-damaged c = damaged_by

pub returns-clause-one : goal.returns-clause-one
returns-clause-one c = one_rows

pub returns-clause-none : goal.returns-clause-none
returns-clause-none c = no_rows
