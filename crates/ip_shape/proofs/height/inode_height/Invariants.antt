use Rattle.std.proofs.Common.{◌≡◌, max, drop}
use Rattle.ip_shape.specs.Heights.{inode_height}
use Rattle.ip_shape.proofs.height.inode_height.Given as goal

abbrev pub invariant-loop-child : goal.invariant-loop-child
invariant-loop-child l = max l.height (inode_height (drop l.child-index l.children)) ≡ inode_height l.children
