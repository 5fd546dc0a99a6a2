use Rattle.ip_history.proofs.LeastAlone.{ancestor_meets, proper_meets}
use Rattle.ip_history.proofs.Parents.{parents_first}
use Rattle.ip_history.proofs.meets.Goals as goal

pub returns-clause-first : goal.returns-clause-first
returns-clause-first c = parents_first

pub returns-clause-ancestor : goal.returns-clause-ancestor
returns-clause-ancestor c = ancestor_meets

pub returns-clause-proper : goal.returns-clause-proper
returns-clause-proper c = proper_meets
