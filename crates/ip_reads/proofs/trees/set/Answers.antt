use Rattle.std.proofs.Common.{rules}
use Rattle.ip_held.specs.Held.{image_records}
use Rattle.ip_held.proofs.Listed.{over}
use Rattle.ip_held.proofs.Stepping.{looks}
use Rattle.ip_reads.proofs.trees.set.Goals as goal

pub returns-clause-sets : goal.returns-clause-sets
returns-clause-sets g c told r v held view = c.set.ensures.sets told (image_records held) v (over c.args.store.now (g.G.Ground.told c.args.outside.now) r held) view

pub returns-clause-looks : goal.returns-clause-looks
returns-clause-looks g c told = looks c.args.store.now _ (search rules) (g.G.Ground.told c.args.outside.now) (g.G.Ground.told c.set.new.outside) (c.set.ensures.looks.reads told)
