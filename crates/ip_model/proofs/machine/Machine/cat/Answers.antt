use Rattle.std.proofs.Common.{sym, ◌∙◌}
use Rattle.std.specs.Prelude.{Ok, Err}
use Rattle.ip_model.proofs.MachineLaws.{replied, cat_by}
use Rattle.ip_model.proofs.machine.Machine.cat.Goals as goal

pub returns-in-Ok : goal.returns-in-Ok
returns-in-Ok c s is = replied c.got.result _ s _ (cat_by s c.args.target.now c.args.path.now (Ok c.in-Ok.number) (sym c.in-Ok.is ∙ c.in_ok-number.ensures s is)) (c.got.ensures s is)

pub returns-in-Err : goal.returns-in-Err
returns-in-Err c s is = cat_by s c.args.target.now c.args.path.now (Err c.in-Err.reply) (sym c.in-Err.is ∙ c.in_ok-number.ensures s is)
