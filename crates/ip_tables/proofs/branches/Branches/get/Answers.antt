use Rattle.std.proofs.Common.{◌∙◌}
use Rattle.ip_tables.proofs.Numbered.{get_is}
use Rattle.ip_tables.proofs.branches.Branches.get.Goals as goal

pub returns : goal.returns
returns c = c.copied.ensures ∙ c.get.ensures.value ∙ get_is c.self.inside.entries c.self.invariant c.args.self.now c.self.view_is c.args.name.now
