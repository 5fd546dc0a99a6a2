use Rattle.std.proofs.Common.{◌∙◌}
use Rattle.ip_tables.proofs.Numbered.{len_is}
use Rattle.ip_tables.proofs.branches.Branches.len.Goals as goal

pub returns : goal.returns
returns c = c.len.ensures.len ∙ len_is c.self.inside.entries c.self.invariant c.args.self.now c.self.view_is
