use Rattle.std.proofs.Common.{rules, ◌<◌, length, arith}
use Rattle.ip_save.proofs.Bounds.{inode_fits}
use Rattle.ip_save.proofs.inode.inode_fault.Goals as goal

pub returns-clause-none : goal.returns-clause-none
returns-clause-none c =
    let few = c.if-children-gt-CHILDREN_MAX.false in
    let shallow = c.if-depth-gt-DEPTH_MAX.false in
    let some : 0 < length c.args.children.now = search rules in
    inode_fits c.args.depth c.args.children.now (omega (arith, few))
    record { shallow = omega (arith, shallow); some = some; each = c.are_children.ensures c.if-not-are_children.false; rising = c.are_rising.ensures c.if-not-are_rising.false }
