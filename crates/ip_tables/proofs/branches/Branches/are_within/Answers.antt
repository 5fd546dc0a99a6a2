use Rattle.ip_tables.proofs.Numbered.{within_is}
use Rattle.ip_tables.proofs.branches.Branches.are_within.Goals as goal

pub returns : goal.returns
returns c =
    within_is c.self.inside.entries c.self.invariant c.args.self.now c.self.view_is c.args.low c.args.high c.all_within.result c.all_within.ensures
