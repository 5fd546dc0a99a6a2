use Rattle.std.proofs.Common.{◌≡◌, map, take}
use Rattle.ip_tree.specs.Reads.{unread_child}
use Rattle.ip_tree.proofs.load.children_of.Given as goal

abbrev pub invariant-loop-child : goal.invariant-loop-child
invariant-loop-child l = l.all.items ≡ map unread_child (take l.child-index l.child-items)
