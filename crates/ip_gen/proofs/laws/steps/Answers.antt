use Rattle.ip_gen.proofs.Running.{one_step}
use Rattle.ip_gen.proofs.laws.steps.Goals as goal

pub returns : goal.returns
returns c = record { one = one_step }
