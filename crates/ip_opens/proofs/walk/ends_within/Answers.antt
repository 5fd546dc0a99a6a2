use Rattle.ip_opens.proofs.Noting.{counts_placed}
use Rattle.ip_opens.proofs.walk.ends_within.Goals as goal

pub returns-clause-counts : goal.returns-clause-counts
returns-clause-counts g c = counts_placed c.args.space.now c.args.at c.damaged_at.result (g.G.Ground.counts_of c.args.outside.now) (g.G.Ground.counts_of c.note_damage.new.self) c.damaged_at.ensures c.note_damage.ensures.counts
