use Rattle.ip_merge.proofs.Counting.{wide_sum}
use Rattle.ip_merge.proofs.counter.sum.Goals as goal

pub returns : goal.returns
returns c = wide_sum c.args.base c.args.left c.args.right c.from-3.result c.from.result c.from-2.result c.ranges.base c.ranges.left c.ranges.right c.from-3.ensures c.from.ensures c.from-2.ensures
