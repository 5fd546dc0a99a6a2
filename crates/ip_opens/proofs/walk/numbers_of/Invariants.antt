use Rattle.std.proofs.Common.{◌≡◌, map, take}
use Rattle.ip_spec.specs.declared.record.Parent.{Parent}
use Rattle.ip_opens.proofs.walk.numbers_of.Given as goal

abbrev pub invariant-loop-parent : goal.invariant-loop-parent
invariant-loop-parent l = l.numbers ≡ map (λ (p : Parent). p.number) (take l.parent-index l.parents)
