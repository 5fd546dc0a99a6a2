use Rattle.ip_model.proofs.MachineLaws.{fresh}
use Rattle.ip_model.proofs.machine.Machine.none.Goals as goal

pub returns : goal.returns
returns c = fresh _ c.none.ensures c.new.ensures.items c.new-2.ensures.items c.empty.ensures
