use Rattle.std.proofs.Common.{refl}
use Rattle.ip_tree.proofs.Unfolded.{unfolded, whole_at}
use Rattle.ip_tree.proofs.Walk.{err_is}
use Rattle.ip_tree.proofs.load.unfold.Goals as goal

pub returns-in_err-load-clause-opened : goal.returns-in_err-load-clause-opened
returns-in_err-load-clause-opened g c tells records t over means =
    let w = whole_at records c.args.node.now c.in-Stored.stored t c.in-Stored.is c.if-reference-ne-DIRECTORY.false means in
    err_is c.from_residual.result c.in_err-load.field-0.0 c.from_residual.ensures.1 _ _ (refl, c.in_err-load.ensures.loaded tells records t over w.spells w.some.directory)

pub returns-clause-opened : goal.returns-clause-opened
returns-clause-opened g c tells records t over means =
    let w = whole_at records c.args.node.now c.in-Stored.stored t c.in-Stored.is c.if-reference-ne-DIRECTORY.false means in
    let loaded = c.in_ok-load.ensures.loaded tells records t over w.spells w.some.directory in
    unfolded records c.args.node.now c.in-Stored.stored c.in_ok-load.field-0 t c.in-Stored.is w.some loaded.0 loaded.1
