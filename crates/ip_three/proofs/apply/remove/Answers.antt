use Rattle.ip_three.proofs.Placing.{removed_at}
use Rattle.ip_three.proofs.apply.remove.Goals as goal

pub returns-clause-removes : goal.returns-clause-removes
returns-clause-removes g c tells records v over is =
    removed_at records v c.args.path.now c.remove.new.self c.in_ok-remove.field-0 (c.in_ok-remove.ensures.removes tells records v over is)
