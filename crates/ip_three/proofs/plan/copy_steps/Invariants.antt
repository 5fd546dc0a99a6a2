use Rattle.std.proofs.Common.{◌≡◌, take}
use Rattle.ip_three.proofs.plan.copy_steps.Given as goal

abbrev pub invariant-loop-i : goal.invariant-loop-i
invariant-loop-i l = l.steps.items ≡ take l.i l.path
