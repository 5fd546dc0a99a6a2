use Rattle.ip_tree.proofs.Walk.{asked_contents, contents_fault, contents_fetched, err_free, err_cause}
use Rattle.ip_tree.proofs.fetch.fetch_contents.Goals as goal

pub returns-in_err-found-clause-contents : goal.returns-in_err-found-clause-contents
returns-in_err-found-clause-contents g c tells records t over reaches kind =
    let fault = c.in_err-found.field-0.0 in
    err_free c.from_residual.result fault c.from_residual.ensures.1 _
    (contents_fault (g.G.Ground.told c.args.outside.now) c.args.space.now records over c.args.reference.now t reaches kind fault (c.in_err-found.ensures.found tells over.readable))

pub returns-in_err-found-clause-causes : goal.returns-in_err-found-clause-causes
returns-in_err-found-clause-causes g c =
    err_cause c.from_residual.result c.in_err-found.field-0.0 c.from_residual.ensures.1 g.G.Ground.tells (g.G.Ground.told c.args.outside.now) c.args.space.now (asked_contents c.args.reference.now)
    c.in_err-found.ensures.blames c.in_err-found.ensures.found

pub returns-clause-contents : goal.returns-clause-contents
returns-clause-contents g c tells records t over reaches kind =
    contents_fetched (g.G.Ground.told c.args.outside.now) c.args.space.now records over c.args.reference.now t reaches kind c.in_ok-found.found (c.in_ok-found.ensures.found tells over.readable) c.bytes_of.result c.bytes_of.ensures
