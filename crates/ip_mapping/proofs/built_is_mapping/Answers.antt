use Rattle.ip_mapping.proofs.Outcomes.{built, runs_placed}
use Rattle.ip_mapping.proofs.built_is_mapping.Goals as goal

pub returns-clause-built : goal.returns-clause-built
returns-clause-built c = built

pub returns-clause-runs : goal.returns-clause-runs
returns-clause-runs c = runs_placed 0
