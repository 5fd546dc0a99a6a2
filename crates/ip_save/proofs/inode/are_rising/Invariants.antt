use Rattle.std.proofs.Common.{◌<◌, ◌+◌, ℕ, map}
use Rattle.std.specs.Prelude.{slice_index}
use Rattle.ip_save.proofs.inode.are_rising.Given as goal

abbrev pub invariant-loop-i : goal.invariant-loop-i
invariant-loop-i l = (k : ℕ) → k + 1 < l.i → slice_index (map (λ c. c.index) l.children) k < slice_index (map (λ c. c.index) l.children) (k + 1)
