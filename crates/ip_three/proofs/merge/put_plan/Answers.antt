use Rattle.std.proofs.Common.{sym, ◌∙◌}
use Rattle.ip_three.specs.Answered.{PutsPlan, three_fault}
use Rattle.ip_three.proofs.Composed.{puts_plan}
use Rattle.ip_three.proofs.MergeFaults.{fault_is}
use Rattle.ip_three.proofs.Values.{no_some}
use Rattle.ip_three.proofs.merge.put_plan.Goals as goal

pub returns-in_err-put_all-clause-puts : goal.returns-in_err-put_all-clause-puts
returns-in_err-put_all-clause-puts g c tells records v r right over is right_is found =
    let none = sym c.lesser.ensures ∙ no_some c.lesser.result c.in_default.not-Some in
    let short = c.if-is_long.false in
    let f = c.in_err-put_all.field-0.0 in
    let new = c.put_all.new.tree in
    fault_is c.from_residual.result (three_fault f) c.from_residual.ensures.1 (PutsPlan records v r c.args.plan c.args.clash new)
    (puts_plan records v r c.args.plan c.args.clash new none short f (c.in_err-put_all.ensures.puts tells records v r right over is right_is (found none short)))

pub returns-clause-puts : goal.returns-clause-puts
returns-clause-puts g c tells records v r right over is right_is found =
    let none = sym c.lesser.ensures ∙ no_some c.lesser.result c.in_default.not-Some in
    let short = c.if-is_long.false in
    (none, short, c.in_ok-put_all.ensures.puts tells records v r right over is right_is (found none short))
