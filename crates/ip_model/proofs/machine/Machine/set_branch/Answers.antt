use Rattle.std.proofs.Common.{refl}
use Rattle.ip_model.proofs.MachineLaws.{branch_full, branch_set}
use Rattle.ip_model.proofs.machine.Machine.set_branch.Goals as goal

pub returns-then-is_full : goal.returns-then-is_full
returns-then-is_full c s is = branch_full c.args.self.now s is c.args.name c.args.number c.is_full.result c.is_full.ensures c.if-is_full.true

pub returns : goal.returns
returns c s is = branch_set c.args.self.now s is c.args.name c.args.number c.is_full.result c.is_full.ensures c.if-is_full.false _ refl refl refl c.in_ok-put.ensures
