use Rattle.ip_tree.proofs.Stands.{known_stand}
use Rattle.ip_tree.proofs.known_parts.Goals as goal

pub returns : goal.returns
returns c = known_stand
