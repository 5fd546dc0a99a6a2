use Rattle.std.proofs.Common.{subst, ℕ, ◌≤◌}
use Rattle.ip_spec.specs.declared.record.Record.{Record}
use Rattle.ip_image.proofs.PairLaws.{contains_from, found_valid, valid_found}
use Rattle.ip_image.proofs.CoreTies.{image_rises, some_valid, valid_since}
use Rattle.ip_image.proofs.valid_pairs.Goals as goal

pub returns-clause-some : goal.returns-clause-some
returns-clause-some c image A h e0 = some_valid A.slot A.records (image_rises image A) A.good h e0

pub returns-clause-since : goal.returns-clause-since
returns-clause-since c image A h e0 pair before since is order behind =
    valid_since image A h e0 pair before since is order (λ x has. let (k, l, is) = contains_from since x has in subst (λ (z : ℕ × Record). e0 ≤ z.0) is (behind k x l))

pub returns-clause-found : goal.returns-clause-found
returns-clause-found c pair found = (found_valid pair found, λ both. valid_found pair found both.0 both.1)
