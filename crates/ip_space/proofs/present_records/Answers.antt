use Rattle.ip_space.proofs.Laws.{is_walked}
use Rattle.ip_space.proofs.present_records.Goals as goal

pub returns-clause-walked : goal.returns-clause-walked
returns-clause-walked c = is_walked
