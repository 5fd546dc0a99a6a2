use Rattle.std.proofs.Common.{◌≡◌, take}
use Rattle.ip_space.proofs.copied.copy_parents.Given as goal

abbrev pub invariant-loop-parent : goal.invariant-loop-parent
invariant-loop-parent l = l.copy ≡ take l.parent-index l.fn.parents
