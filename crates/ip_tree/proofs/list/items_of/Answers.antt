use Rattle.ip_tree.proofs.KindsPut.{sorted_in}
use Rattle.ip_tree.proofs.list.items_of.Goals as goal

pub returns-in_err-items-clause-ordered : goal.returns-in_err-items-clause-ordered
returns-in_err-items-clause-ordered c = sorted_in c.args.found c.len.ensures.ordered

pub returns-in_err-push-clause-ordered : goal.returns-in_err-push-clause-ordered
returns-in_err-push-clause-ordered c = sorted_in c.args.found c.len.ensures.ordered

pub returns-clause-ordered : goal.returns-clause-ordered
returns-clause-ordered c = sorted_in c.args.found c.len.ensures.ordered
