use Rattle.std.proofs.Common.{◌≡◌, map, take}
use Rattle.std.specs.Prelude.{All, IsTrue}
use Rattle.ip_spec.specs.Repository.{Repository, is_retained}
use Rattle.ip_spec.specs.Record.{IsU64, IsHash}
use Rattle.ip_held.specs.Answers.{parent_named}
use Rattle.ip_held.specs.Held.{IsOf}
use Rattle.ip_appends.proofs.committing.parents_named.Given as goal

abbrev pub invariant-loop-number : goal.invariant-loop-number
invariant-loop-number l = ((r : Repository) → IsOf l.store r → All (λ n. IsTrue (is_retained r n)) l.numbers → l.parents ≡ map (parent_named r) (take l.number-index l.numbers))
    × All (λ p. IsU64 p.number × IsHash p.name) l.parents
