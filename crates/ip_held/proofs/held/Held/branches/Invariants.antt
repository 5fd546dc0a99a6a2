use Rattle.ip_spec.specs.Repository.{Repository}
use Rattle.ip_held.specs.Held.{IsOf}
use Rattle.ip_held.proofs.Listing.{Listing}
use Rattle.ip_held.proofs.held.Held.branches.Given as goal

abbrev pub invariant-loop-branch : goal.invariant-loop-branch
invariant-loop-branch l =
    (goal.iterator-loop-branch).can_next l.branch-iterator ×
    (goal.iterator-loop-branch).is_finite l.branch-iterator ×
    ((r : Repository) → IsOf l.self r → Listing r l.branch-iterator l.heads.items)
