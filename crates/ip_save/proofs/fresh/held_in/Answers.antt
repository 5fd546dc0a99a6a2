use Rattle.ip_save.proofs.Finding.{held_lost}
use Rattle.ip_save.proofs.fresh.held_in.Goals as goal

pub returns-in-Err-clause-lost : goal.returns-in-Err-clause-lost
returns-in-Err-clause-lost g c =
    held_lost g.G.Ground.tells (g.G.Ground.told c.args.outside.now) c.args.space.now c.args.reference.now c.requires c.in-Err.fault c.in-Err.ensures.blames c.in-Err.ensures.found
