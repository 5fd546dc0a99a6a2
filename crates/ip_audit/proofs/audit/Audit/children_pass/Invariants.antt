use Rattle.std.proofs.Common.{ℕ, ◌<◌, slice_index_or, take}
use Rattle.ip_audit.specs.Memory.{ChildPasses}
use Rattle.ip_audit.specs.View.{look_of, places_in}
use Rattle.ip_spec.specs.declared.record.InodeChild.{InodeChild}
use Rattle.ip_audit.proofs.audit.Audit.children_pass.Given as goal

abbrev pub invariant-loop-child : goal.invariant-loop-child
invariant-loop-child l = (k : ℕ) (d : InodeChild) → k < l.child-index → ChildPasses (look_of l.self.kept) l.at l.depth (take l.depth (places_in l.above)) (slice_index_or l.children k d)
