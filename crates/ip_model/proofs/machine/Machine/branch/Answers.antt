use Rattle.std.proofs.Common.{sym, ◌∙◌}
use Rattle.std.specs.Prelude.{Ok, Err}
use Rattle.ip_model.specs.Working.{branch_after}
use Rattle.ip_model.proofs.MachineLaws.{turned_so, branch_by}
use Rattle.ip_model.proofs.machine.Machine.branch.Goals as goal

pub returns-in-Ok : goal.returns-in-Ok
returns-in-Ok c s is =
    turned_so _ c.set_branch.result _ (branch_after s c.args.name c.in-Ok.number)
    (branch_by s c.args.name c.args.target.now (Ok c.in-Ok.number) (sym c.in-Ok.is ∙ c.in_ok-number.ensures s is)) (c.set_branch.ensures s is)

pub returns-in-Err : goal.returns-in-Err
returns-in-Err c s is = (s, is, branch_by s c.args.name c.args.target.now (Err c.in-Err.reply) (sym c.in-Err.is ∙ c.in_ok-number.ensures s is))
