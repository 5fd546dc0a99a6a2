use Rattle.std.proofs.Common.{map}
use Rattle.ip_image.specs.Virtual.{run_of, virtual_byte}
use Rattle.ip_space.proofs.Kept.{gone_byte, read_nothing}
use Rattle.ip_space.proofs.source.Source.read.Goals as goal

pub returns-in_default-clause-reads : goal.returns-in_default-clause-reads
returns-in_default-clause-reads g c told readable =
    let layout = c.args.self.now.layout in
    let runs = map run_of c.args.self.now.mapping.rows in
    let image = (g.G.Ground.told c.args.outside.now).held in
    read_nothing (virtual_byte image layout runs) c.args.at _ _ (gone_byte image layout runs c.args.at c.if-at-self.false c.in_default.ensures)
