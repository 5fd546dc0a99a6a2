use Rattle.ip_spec.specs.Tree.{subtree}
use Rattle.ip_spec.specs.Repository.{tree_at}
use Rattle.ip_model.specs.Working.{graft_after}
use Rattle.ip_model.proofs.MachineLaws.{work_turned}
use Rattle.ip_model.proofs.machine.Machine.graft_from.Goals as goal

pub returns : goal.returns
returns c s is =
    let n = c.args.number in
    let source = tree_at s.repository n in
    let sub = subtree source c.args.from.now in
    let found = c.in_ok-sub.ensures source (c.in_ok-source.ensures s is) in
    work_turned c.args.self.now s is c.graft.new.self (graft_after s n sub c.args.to.now) c.graft.result (c.graft.ensures s sub found is.work)
