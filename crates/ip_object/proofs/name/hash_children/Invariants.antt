use Rattle.std.proofs.Common.{ℕ, List, ◌++◌, take, flat_map}
use Rattle.ip_object.specs.Lists.{hashed_child}
use Rattle.ip_object.proofs.name.hash_children.Given as goal

abbrev pub invariant-loop-child : goal.invariant-loop-child
invariant-loop-child g l = (m : List ℕ) → g.D.Digest.holds l.fn.hasher m → g.D.Digest.holds l.hasher (m ++ flat_map hashed_child (take l.child-index l.children))
