use Rattle.ip_model.proofs.BranchLaws.{branches_are}
use Rattle.ip_model.proofs.machine.Machine.branches.Goals as goal

pub returns : goal.returns
returns c s good is = branches_are c.args.self.now s is good c.in_ok-heads.field-0 c.in_ok-heads.ensures
