use Rattle.std.proofs.Common.{◌≡◌, map, take}
use Rattle.std.specs.Prelude.{All, IsTrue}
use Rattle.ip_spec.specs.Repository.{Repository, is_retained, name_at}
use Rattle.ip_held.specs.Held.{IsOf}
use Rattle.ip_reads.proofs.history.names_at.Given as goal

abbrev pub invariant-loop-number : goal.invariant-loop-number
invariant-loop-number l = (r : Repository) → IsOf l.store r → All (λ n. IsTrue (is_retained r n)) l.numbers → l.names.items ≡ map (name_at r) (take l.number-index l.numbers)
