use Rattle.ip_tables.proofs.Numbered.{no_branches}
use Rattle.ip_tables.proofs.branches.Branches.new.Goals as goal

pub returns : goal.returns
returns c = no_branches c.new.result c.new.ensures.empty
