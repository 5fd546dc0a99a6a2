use Rattle.ip_space.proofs.Laws.{records_stand, runs_stand}
use Rattle.ip_space.proofs.Stretches.{stretches_stand}
use Rattle.ip_space.proofs.standing_records.Goals as goal

pub returns-clause-records : goal.returns-clause-records
returns-clause-records c = records_stand

pub returns-clause-runs : goal.returns-clause-runs
returns-clause-runs c = runs_stand

pub returns-clause-stretches : goal.returns-clause-stretches
returns-clause-stretches c = stretches_stand
