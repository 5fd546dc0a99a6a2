use Rattle.std.proofs.Common.{◌≡◌, map, take}
use Rattle.ip_spec.specs.declared.record.Parent.{Parent}
use Rattle.ip_reads.proofs.commit.names_of.Given as goal

abbrev pub invariant-loop-parent : goal.invariant-loop-parent
invariant-loop-parent l = l.names ≡ map (λ (p : Parent). p.name) (take l.parent-index l.parents)
