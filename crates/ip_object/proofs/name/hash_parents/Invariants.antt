use Rattle.std.proofs.Common.{ℕ, List, ◌++◌, take, flat_map}
use Rattle.ip_object.proofs.name.hash_parents.Given as goal

abbrev pub invariant-loop-parent : goal.invariant-loop-parent
invariant-loop-parent g l = (m : List ℕ) → g.D.Digest.holds l.fn.hasher m → g.D.Digest.holds l.hasher (m ++ flat_map (λ p. p.name) (take l.parent-index l.parents))
