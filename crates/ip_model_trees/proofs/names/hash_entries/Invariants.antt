use Rattle.std.proofs.Common.{ℕ, List, ◌++◌, ◌≤◌, take, flat_map, length}
use Rattle.std.specs.Prelude.{All}
use Rattle.ip_model_trees.specs.Names.{hashed_entry}
use Rattle.ip_model_trees.proofs.names.hash_entries.Given as goal

abbrev pub invariant-loop-placed : goal.invariant-loop-placed
invariant-loop-placed g l = (m : List ℕ) → All (λ p. length p.entry.now.step ≤ 255) l.entries → g.D.Digest.holds l.fn.hasher m → g.D.Digest.holds l.hasher (m ++ flat_map (λ p. hashed_entry p.entry.now) (take l.placed-index l.entries))
