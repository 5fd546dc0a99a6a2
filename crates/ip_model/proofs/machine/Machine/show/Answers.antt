use Rattle.std.proofs.Common.{sym, ◌∙◌}
use Rattle.std.specs.Prelude.{Ok, Err}
use Rattle.ip_model.proofs.MachineLaws.{replied, show_by}
use Rattle.ip_model.proofs.machine.Machine.show.Goals as goal

pub returns-in-Ok : goal.returns-in-Ok
returns-in-Ok c s is = replied c.show.result _ s _ (show_by s c.args.target.now (Ok c.in-Ok.number) (sym c.in-Ok.is ∙ c.in_ok-number.ensures s is)) (c.show.ensures s.repository is.commits)

pub returns-in-Err : goal.returns-in-Err
returns-in-Err c s is = show_by s c.args.target.now (Err c.in-Err.reply) (sym c.in-Err.is ∙ c.in_ok-number.ensures s is)
