use Rattle.std.proofs.Common.{arith}
use Rattle.ip_check.proofs.AlikeBytes.{one_more, no_more, common_most}
use Rattle.ip_check.proofs.compare.first_other.Goals as goal
use Rattle.ip_check.proofs.compare.first_other.Goals.{then-index-got-via-then-index-got, then-index-got-via-else-index-got+then-got-index}

pub returns-then-index-got : goal.returns-then-index-got
returns-then-index-got c = (
  c.loop-index-test.true,
  no_more c.args.want.now c.args.got.now c.loop-index.index c.loop-index.invariant (λ k e.
      elim c.then-index-got.branch [
        | then-index-got-via-then-index-got w ↦ (let p = w.if-index-got in omega (arith, k, p))
        | then-index-got-via-else-index-got+then-got-index w ↦ (let q = w.if-got-index in omega (arith, e, q))
      ]),
)

pub loop-index-preserved : goal.loop-index-preserved
loop-index-preserved c =
    one_more c.args.want.now c.args.got.now c.loop-index.index c.loop-index.invariant c.loop-index-test.true (let p = c.if-index-got.false in omega (arith, p)) (let q = c.if-got-index.false in omega (arith, q))

pub returns : goal.returns
returns c =
    let most = common_most c.args.want.now c.args.got.now in
    let low = c.loop-index.invariant in
    let end = c.loop-index-test.false in
    omega (arith, most, low, end)
