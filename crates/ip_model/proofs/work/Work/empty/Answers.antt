use Rattle.std.proofs.Common.{refl}
use Rattle.ip_model.proofs.WorkLaws.{begins}
use Rattle.ip_model.proofs.work.Work.empty.Goals as goal

pub returns : goal.returns
returns c = begins _ c.none.ensures c.empty.ensures refl
