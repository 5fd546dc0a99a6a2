use Rattle.ip_spec.proofs.Naming.{true_name}
use Rattle.ip_spec.proofs.tree_names.Goals as goal

pub returns : goal.returns
returns c = λ records at t r stands is. true_name records at t r stands.0 stands.1 is
