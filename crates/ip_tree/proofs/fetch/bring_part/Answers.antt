use Rattle.ip_tree.proofs.Lending.{lent_anywhere, lent_is, lent_there}
use Rattle.ip_tree.proofs.Walk.{asked_part, part_fault, err_free, err_cause}
use Rattle.ip_tree.proofs.fetch.bring_part.Goals as goal

pub returns-in_err-found-clause-part : goal.returns-in_err-found-clause-part
returns-in_err-found-clause-part g c tells records depth es over is =
    let fault = c.in_err-found.field-0.0 in
    err_free c.from_residual.result fault c.from_residual.ensures.1 _
    (part_fault (g.G.Ground.told c.args.outside.now) c.args.space.now records over depth c.args.reference.now es is fault (c.in_err-found.ensures.found tells over.readable))

pub returns-in_err-found-clause-causes : goal.returns-in_err-found-clause-causes
returns-in_err-found-clause-causes g c =
    err_cause c.from_residual.result c.in_err-found.field-0.0 c.from_residual.ensures.1 g.G.Ground.tells (g.G.Ground.told c.args.outside.now) c.args.space.now (asked_part c.args.reference.now)
    c.in_err-found.ensures.blames c.in_err-found.ensures.found

pub returns-clause-part : goal.returns-clause-part
returns-clause-part g c tells records depth es over is =
    lent_there c.bring.new.self c.args.reference.now c.in_ok-found.found c.in_ok-found.ensures.here (g.G.Ground.told c.args.outside.now) c.args.space.now records over depth es is (c.in_ok-found.ensures.found tells over.readable)

pub returns-clause-any : goal.returns-clause-any
returns-clause-any g c tells readable =
    lent_anywhere c.bring.new.self c.args.reference.now c.in_ok-found.found c.in_ok-found.ensures.here _ (c.in_ok-found.ensures.found tells readable)

pub returns-clause-is : goal.returns-clause-is
returns-clause-is g c =
    lent_is c.bring.new.self c.args.reference.now c.in_ok-found.found c.in_ok-found.ensures.here _ c.in_ok-found.ensures.meets c.in_ok-found.ensures.bounds
