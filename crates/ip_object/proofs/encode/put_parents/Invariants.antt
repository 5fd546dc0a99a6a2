use Rattle.std.proofs.Common.{◌≡◌, ◌++◌, take, flat_map}
use Rattle.ip_spec.specs.Record.{u64}
use Rattle.ip_object.proofs.encode.put_parents.Given as goal

abbrev pub invariant-loop-parent : goal.invariant-loop-parent
invariant-loop-parent l = l.out.items ≡ l.fn.out.items ++ flat_map (λ p. u64 p.number ++ p.name) (take l.parent-index l.parents)
