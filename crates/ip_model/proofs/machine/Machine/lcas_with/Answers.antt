use Rattle.std.proofs.Common.{sym, ◌∙◌}
use Rattle.std.specs.Prelude.{Ok, Err}
use Rattle.ip_model.proofs.MachineLaws.{replied, lcas_then}
use Rattle.ip_model.proofs.machine.Machine.lcas_with.Goals as goal

pub returns-in-Ok : goal.returns-in-Ok
returns-in-Ok c s lawful is = replied c.lcas.result _ s _ (lcas_then s c.args.a c.args.other.now (Ok c.in-Ok.b) (sym c.in-Ok.is ∙ c.in_ok-b.ensures s is)) (c.lcas.ensures s.repository lawful is.commits)

pub returns-in-Err : goal.returns-in-Err
returns-in-Err c s lawful is = lcas_then s c.args.a c.args.other.now (Err c.in-Err.reply) (sym c.in-Err.is ∙ c.in_ok-b.ensures s is)
