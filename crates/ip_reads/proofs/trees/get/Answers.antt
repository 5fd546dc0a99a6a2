use Rattle.std.proofs.Common.{rules}
use Rattle.ip_held.specs.Held.{image_records}
use Rattle.ip_held.proofs.Listed.{over}
use Rattle.ip_held.proofs.Stepping.{looks}
use Rattle.ip_reads.proofs.trees.get.Goals as goal

pub returns-clause-got : goal.returns-clause-got
returns-clause-got g c told r v held view = c.get.ensures.got told (image_records held) v (over c.args.store.now (g.G.Ground.told c.args.outside.now) r held) view

pub returns-clause-looks : goal.returns-clause-looks
returns-clause-looks g c told = looks c.args.store.now _ (search rules) (g.G.Ground.told c.args.outside.now) (g.G.Ground.told c.get.new.outside) (c.get.ensures.looks.reads told)
