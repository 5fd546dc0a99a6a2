use Rattle.std.proofs.Common.{◌≡◌, ◌<◌, ◌+◌, ℕ, get_or, map, []}
use Rattle.std.specs.declared.cmp.Ordering.TheVariants.{Less}
use Rattle.ip_spec.specs.Path.{bytes_cmp}
use Rattle.ip_save.proofs.leaf.are_rising.Given as goal

abbrev pub invariant-loop-i : goal.invariant-loop-i
invariant-loop-i l = (k : ℕ) → k + 1 < l.i → bytes_cmp (get_or (map (λ e. e.step) l.entries) k []) (get_or (map (λ e. e.step) l.entries) (k + 1) []) ≡ Less
