use Rattle.std.proofs.Common.{subst}
use Rattle.std.specs.Prelude.{Some}
use Rattle.ip_history.specs.Frontier.{at, known, joined, IsPut}
use Rattle.ip_history.proofs.Heads.{heads_more}
use Rattle.ip_history.proofs.table.heads.Goals as goal

pub loop-number-preserved : goal.loop-number-preserved
loop-number-preserved c =
    let old = c.loop-number.frontier in
    let new = c.add-in-loop-number.new.self in
    let f = c.listed.result in
    let p = c.number-item.result in
    let put : IsPut old new p (Some (joined (known (at old p)) f)) = subst (λ q. IsPut old new q (Some (joined (known (at old q)) f))) c.get-in-loop-number.ensures c.in_ok-add-2.ensures in
    heads_more c.args.list.now c.loop-number.number-index p c.args.number f old new c.loop-number-test.true c.number-item.is c.listed.ensures put c.loop-number.invariant
