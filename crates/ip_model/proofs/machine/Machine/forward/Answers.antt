use Rattle.std.proofs.Common.{refl}
use Rattle.ip_model.proofs.MergeSteps.{forwarded}
use Rattle.ip_model.proofs.machine.Machine.forward.Goals as goal

pub returns : goal.returns
returns c s low is = forwarded c.args.self.now _ s is c.args.commit c.args.branch low refl refl refl c.in_ok-put.ensures c.name_of.result c.name_of.ensures
