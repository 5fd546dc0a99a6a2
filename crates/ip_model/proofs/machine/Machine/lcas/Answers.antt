use Rattle.std.proofs.Common.{sym, ◌∙◌}
use Rattle.std.specs.Prelude.{Ok, Err}
use Rattle.ip_model.specs.Working.{lcas_after}
use Rattle.ip_model.proofs.MachineLaws.{answered, lcas_by}
use Rattle.ip_model.proofs.machine.Machine.lcas.Goals as goal

pub returns-in-Ok : goal.returns-in-Ok
returns-in-Ok c s lawful is =
    answered c.lcas_with.result s _ (lcas_after s c.in-Ok.a c.args.other.now) (lcas_by s c.args.one.now c.args.other.now (Ok c.in-Ok.a) (sym c.in-Ok.is ∙ c.in_ok-a.ensures s is)) (c.lcas_with.ensures s lawful is)

pub returns-in-Err : goal.returns-in-Err
returns-in-Err c s lawful is = lcas_by s c.args.one.now c.args.other.now (Err c.in-Err.reply) (sym c.in-Err.is ∙ c.in_ok-a.ensures s is)
