use Rattle.ip_spec.proofs.BatchLaws.{batch_lies, batch_stands, sources_stand, reusing_stand}
use Rattle.ip_spec.proofs.batch_stands.Goals as goal

pub returns-clause-lies : goal.returns-clause-lies
returns-clause-lies c = batch_lies

pub returns-clause-stands : goal.returns-clause-stands
returns-clause-stands c = batch_stands

pub returns-clause-known : goal.returns-clause-known
returns-clause-known c = sources_stand

pub returns-clause-reused : goal.returns-clause-reused
returns-clause-reused c = reusing_stand
