use Rattle.std.proofs.Common.{◌≡◌, ◌+◌, ◌-◌, ◌^◌, ◌≤◌, drop, min}
use Rattle.std.specs.Prelude.{sum_by}
use Rattle.ip_spec.specs.declared.record.InodeChild.{InodeChild}
use Rattle.ip_tree.proofs.load.counted.Given as goal

abbrev pub invariant-loop-child : goal.invariant-loop-child
invariant-loop-child l = record {
  within : l.total ≤ 2 ^ 64 - 1;
  sum : min (l.total + sum_by (λ (c : InodeChild). c.count) (drop l.child-index l.children)) (2 ^ 64 - 1) ≡ min (sum_by (λ (c : InodeChild). c.count) l.children) (2 ^ 64 - 1);
}
