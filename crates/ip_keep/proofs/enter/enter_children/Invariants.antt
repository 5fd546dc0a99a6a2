use Rattle.std.proofs.Common.{map, take}
use Rattle.ip_spec.specs.declared.record.InodeChild.{InodeChild}
use Rattle.ip_keep.specs.Entering.{Gains}
use Rattle.ip_keep.proofs.enter.enter_children.Given as goal

abbrev pub invariant-loop-child : goal.invariant-loop-child
invariant-loop-child l = Gains l.fn.waiting.keys l.waiting.keys (map (λ (e : InodeChild). e.at) (take l.child-index l.children)) l.below
