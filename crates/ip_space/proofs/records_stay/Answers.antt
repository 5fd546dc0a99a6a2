use Rattle.ip_space.proofs.Laws.{records_kept}
use Rattle.ip_space.proofs.records_stay.Goals as goal

pub returns : goal.returns
returns c = records_kept
