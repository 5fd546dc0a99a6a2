use Rattle.std.specs.List.{AllWithin}
use Rattle.ip_spec.specs.Record.{IsInodeChild}
use Rattle.ip_save.proofs.inode.are_children.Given as goal

abbrev pub invariant-loop-child : goal.invariant-loop-child
invariant-loop-child l = AllWithin IsInodeChild l.children 0 l.child-index
