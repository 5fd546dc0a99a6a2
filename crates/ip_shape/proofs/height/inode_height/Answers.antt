use Rattle.std.proofs.Common.{◌≡◌, ap, arith, drop, ◌∙◌}
use Rattle.std.proofs.lemmas.List.{drop_all}
use Rattle.ip_shape.specs.Heights.{inode_height}
use Rattle.ip_shape.proofs.Heights.{inode_fold}
use Rattle.ip_shape.proofs.height.inode_height.Goals as goal

pub returns-clause-greatest : goal.returns-clause-greatest
returns-clause-greatest c =
    let none : inode_height (drop c.loop-child.child-index c.args.children.now) ≡ 0 = ap inode_height (drop_all c.loop-child.child-index c.args.children.now (omega (arith, c.loop-child-test.false))) in
    let all : c.loop-child.height ≡ inode_height c.args.children.now = omega (arith, none, c.loop-child.invariant) in
    all ∙ inode_fold c.args.children.now
