use Rattle.ip_image.proofs.SpelledCommits.{commits_spelled, some_repository}
use Rattle.ip_image.proofs.some_repository.Goals as goal

pub returns-clause-some : goal.returns-clause-some
returns-clause-some c = some_repository

pub returns-clause-spelled : goal.returns-clause-spelled
returns-clause-spelled c = commits_spelled
