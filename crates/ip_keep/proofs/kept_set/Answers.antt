use Rattle.ip_keep.proofs.LeastSet as laws
use Rattle.ip_keep.proofs.kept_set.Goals as goal

pub returns-clause-keeps_all : goal.returns-clause-keeps_all
returns-clause-keeps_all c = laws.keeps_all

pub returns-clause-few_looks : goal.returns-clause-few_looks
returns-clause-few_looks c = laws.few_looks
