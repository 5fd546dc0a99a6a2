use Rattle.ip_ground.specs.Told.{NoFile}
use Rattle.ip_ground.proofs.Spans.{only_nowhere}
use Rattle.ip_worker.proofs.served.refuse_live.Goals as goal

pub returns-clause-only : goal.returns-clause-only
returns-clause-only g c told = only_nowhere _ NoFile
