use Rattle.ip_image.proofs.PairLaws.{one_valid}
use Rattle.ip_image.proofs.one_pair.Goals as goal

pub returns : goal.returns
returns c = one_valid
