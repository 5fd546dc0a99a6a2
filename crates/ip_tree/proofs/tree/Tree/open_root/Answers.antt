use Rattle.ip_tree.proofs.Roots.{loaded_view, root_at}
use Rattle.ip_tree.proofs.Walk.{err_is}
use Rattle.ip_tree.specs.declared.tree.Root.TheVariants.{Stored}
use Rattle.ip_tree.proofs.tree.Tree.open_root.Goals as goal

pub returns-in_err-load-clause-opened : goal.returns-in_err-load-clause-opened
returns-in_err-load-clause-opened g c tells records v over is =
    let root = root_at records c.args.self.now v is (Stored c.in-Stored.reference) c.in-Stored.is in
    (is, err_is c.from_residual.result c.in_err-load.field-0.0 c.from_residual.ensures.1 _ _ (c.in_err-load.ensures.loaded tells records v.map over root.1 root.0))

pub returns-clause-opened : goal.returns-clause-opened
returns-clause-opened g c tells records v over is =
    let root = root_at records c.args.self.now v is (Stored c.in-Stored.reference) c.in-Stored.is in
    let loaded = c.in_ok-load.ensures.loaded tells records v.map over root.1 root.0 in
    (loaded_view records c.args.self.now v is c.in-Stored.reference c.in_ok-load.field-0 c.in-Stored.is loaded.0 loaded.1, tt)
