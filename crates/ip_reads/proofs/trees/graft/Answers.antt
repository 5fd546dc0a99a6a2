use Rattle.std.proofs.Common.{rules}
use Rattle.ip_held.specs.Held.{image_records}
use Rattle.ip_held.proofs.Listed.{over}
use Rattle.ip_held.proofs.Stepping.{looks}
use Rattle.ip_reads.proofs.trees.graft.Goals as goal

pub returns-clause-grafts : goal.returns-clause-grafts
returns-clause-grafts g c told r v w held view source = c.graft.ensures.grafts told (image_records held) v w (over c.args.store.now (g.G.Ground.told c.args.outside.now) r held) view source

pub returns-clause-looks : goal.returns-clause-looks
returns-clause-looks g c told = looks c.args.store.now _ (search rules) (g.G.Ground.told c.args.outside.now) (g.G.Ground.told c.graft.new.outside) (c.graft.ensures.looks.reads told)
