use Rattle.std.proofs.Common.{◌≡◌, take}
use Rattle.std.specs.Prelude.{◌^◌, sum_by}
use Rattle.ip_model_trees.proofs.names.bitmap.Given as goal

abbrev pub invariant-loop-child : goal.invariant-loop-child
invariant-loop-child l = l.bitmap ≡ sum_by (λ c. 2 ^ c.index) (take l.child-index l.children)
