use Rattle.std.proofs.Common.{◌∙◌}
use Rattle.ip_tree.specs.Reads.{as_content}
use Rattle.ip_tree.proofs.Leading.{has_depth, leads_through, leads_to}
use Rattle.ip_tree.proofs.below.next_below.Goals as goal

pub returns-clause-next : goal.returns-clause-next
returns-clause-next g c tells records depth es over sum is =
    let here = c.in-Ok.ensures.part tells records depth es over is ∙ c.lent_part.ensures.is in
    leads_to records depth c.args.levels c.args.reference.now.at es sum is.part c.args.step.now (as_content c.lent_part.result) here c.next_in.result c.next_in.ensures

pub returns-clause-any : goal.returns-clause-any
returns-clause-any g c tells readable =
    let here = c.in-Ok.ensures.any tells readable ∙ c.lent_part.ensures.is in
    leads_through _ c.args.reference.now.at c.args.step.now c.args.levels (as_content c.lent_part.result) here c.next_in.result c.next_in.ensures

pub returns-clause-low : goal.returns-clause-low
returns-clause-low g c = has_depth c.args.levels c.args.step.now (as_content c.lent_part.result) c.next_in.result c.next_in.ensures
