use Rattle.ip_gen.proofs.Appending.{keeps_is}
use Rattle.ip_gen.proofs.phase.Phase.keeps.Goals as goal

pub returns-else-commit-at : goal.returns-else-commit-at
returns-else-commit-at c = rw c.in-Collecting.is (keeps_is c.in-Collecting.commit c.args.at c.in-Collecting.kept c.contains.result c.if-commit-at.false c.contains.ensures)
