use Rattle.ip_check.proofs.Bounds.{few_looks, looks_all, looks_twice, accepts}
use Rattle.ip_check.proofs.checks.Goals as goal

pub returns-clause-few_looks : goal.returns-clause-few_looks
returns-clause-few_looks c = few_looks

pub returns-clause-looks_all : goal.returns-clause-looks_all
returns-clause-looks_all c = looks_all

pub returns-clause-accepts : goal.returns-clause-accepts
returns-clause-accepts c = accepts

pub returns-clause-looks_twice : goal.returns-clause-looks_twice
returns-clause-looks_twice c = looks_twice
