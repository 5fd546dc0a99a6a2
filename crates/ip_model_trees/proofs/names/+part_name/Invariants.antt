use Rattle.std.proofs.Common.{◌-◌, ◌∷◌, ◌++◌, take, flat_map}
use Rattle.std.specs.Prelude.{◌^◌, sum_by}
use Rattle.sha2.specs.Hashers.{Holds256}
use Rattle.ip_spec.specs.Record.{u32}
use Rattle.ip_model_trees.specs.Places.{ArePlaced, hashed_child}
use Rattle.ip_model_trees.proofs.names.+part_name.Given as goal

abbrev pub decreases-part_name : goal.decreases-part_name
decreases-part_name l = 51 - l.depth

abbrev pub invariant-loop-child : goal.invariant-loop-child
invariant-loop-child l = ArePlaced l.fn.entries → Holds256 l.hasher ((3 ∷ l.fn.depth ∷ u32 (sum_by (λ c. 2 ^ c.index) l.children)) ++ flat_map (hashed_child (50 - l.fn.depth)) (take l.child-index l.children))
