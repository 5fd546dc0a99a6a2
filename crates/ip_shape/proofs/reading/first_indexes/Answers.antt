use Rattle.std.proofs.Common.{arith}
use Rattle.ip_shape.proofs.Digests.{in_digest}
use Rattle.ip_shape.proofs.Entering.{one_index}
use Rattle.ip_shape.proofs.reading.first_indexes.Goals as goal

pub loop-i-preserved : goal.loop-i-preserved
loop-i-preserved c s is =
    one_index c.loop-i.i c.at.result s c.loop-i.indexes.items c.push.new.self.items (omega arith) (in_digest c.at.result c.args.places.now s c.loop-i.i c.at.ensures is) (c.loop-i.invariant s is) c.in_ok-push.ensures.items
