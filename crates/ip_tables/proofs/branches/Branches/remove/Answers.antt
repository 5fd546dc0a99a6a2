use Rattle.ip_tables.proofs.Numbered.{out_is}
use Rattle.ip_tables.proofs.branches.Branches.remove.Goals as goal

pub returns : goal.returns
returns c = out_is c.self.inside.entries c.self.invariant c.args.self.now c.self.view_is c.remove.new.self c.remove.ensures.ordered c.args.name.now c.remove.ensures.entries
