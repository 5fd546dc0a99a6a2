use Rattle.std.proofs.Common.{sym, ◌∙◌}
use Rattle.std.specs.Prelude.{Ok, Err}
use Rattle.ip_spec.specs.Tree.{subtree}
use Rattle.ip_spec.specs.Repository.{tree_at}
use Rattle.ip_model.specs.Working.{graft_after}
use Rattle.ip_model.proofs.MachineLaws.{turned_so}
use Rattle.ip_model.proofs.Grafted.{graft_found}
use Rattle.ip_model.proofs.machine.Machine.graft.Goals as goal

pub returns-in-Ok : goal.returns-in-Ok
returns-in-Ok c s is =
    let n = c.in-Ok.number in
    turned_so _ c.graft_from.result _ (graft_after s n (subtree (tree_at s.repository n) c.args.from.now) c.args.to.now)
    (graft_found c.args.self.now s is c.args.target.now c.args.from.now c.args.to.now (Ok n) (sym c.in-Ok.is ∙ c.in_ok-number.ensures s is)) (c.graft_from.ensures s is)

pub returns-in-Err : goal.returns-in-Err
returns-in-Err c s is = (s, is, graft_found c.args.self.now s is c.args.target.now c.args.from.now c.args.to.now (Err c.in-Err.reply) (sym c.in-Err.is ∙ c.in_ok-number.ensures s is))
