use Rattle.std.proofs.Common.{sym, ◌∙◌}
use Rattle.std.specs.Prelude.{Ok, Err}
use Rattle.ip_model.specs.Working.{parent_after}
use Rattle.ip_model.proofs.MachineLaws.{turned_so, work_turned, parent_found}
use Rattle.ip_model.proofs.machine.Machine.parent.Goals as goal

pub returns-in-Ok : goal.returns-in-Ok
returns-in-Ok c s is =
    turned_so _ c.parent.result _ (parent_after s c.in-Ok.number) (parent_found c.args.self.now s is c.args.target.now (Ok c.in-Ok.number) (sym c.in-Ok.is ∙ c.in_ok-number.ensures s is))
    (work_turned c.args.self.now s is c.parent.new.self (parent_after s c.in-Ok.number) c.parent.result (c.parent.ensures s is.work))

pub returns-in-Err : goal.returns-in-Err
returns-in-Err c s is = (s, is, parent_found c.args.self.now s is c.args.target.now (Err c.in-Err.reply) (sym c.in-Err.is ∙ c.in_ok-number.ensures s is))
