use Rattle.std.proofs.Common.{◌≡◌, take}
use Rattle.ip_space.proofs.copied.copy_children.Given as goal

abbrev pub invariant-loop-child : goal.invariant-loop-child
invariant-loop-child l = l.copy ≡ take l.child-index l.fn.children
