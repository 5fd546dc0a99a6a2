use Rattle.std.proofs.Common.{arith}
use Rattle.ip_save.proofs.Indexes.{index_rises}
use Rattle.ip_save.proofs.inode.are_rising.Goals as goal

pub loop-i-preserved : goal.loop-i-preserved
loop-i-preserved c =
    index_rises c.args.children.now c.loop-i.i c.index-children-i.result c.index-children-i-in-loop-i.result (omega arith) (omega arith) c.index-children-i.is c.index-children-i-in-loop-i.is
    c.if-children-i.false c.loop-i.invariant
