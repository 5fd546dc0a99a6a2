use Rattle.ip_model.proofs.MachineLaws.{emptied}
use Rattle.ip_model.proofs.machine.Machine.empty.Goals as goal

pub returns : goal.returns
returns c s is = emptied c.args.self.now s is c.empty.result c.empty.ensures
