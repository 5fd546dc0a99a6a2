use Rattle.ip_spec.specs.Merge.{same_merger, counter_merger, line_set_merger}
use Rattle.ip_merge.proofs.RuleLaws.{computes}
use Rattle.ip_merge.proofs.exact_answer.Goals as goal

pub returns-clause-same : goal.returns-clause-same
returns-clause-same c = computes same_merger

pub returns-clause-counter : goal.returns-clause-counter
returns-clause-counter c = computes counter_merger

pub returns-clause-line_set : goal.returns-clause-line_set
returns-clause-line_set c = computes line_set_merger
