use Rattle.std.proofs.Common.{◌≡◌, ◌<◌, ℕ}
use Rattle.ip_shape.specs.Place.{place_in}
use Rattle.ip_audit.proofs.kept.agreed_with.Given as goal

abbrev pub invariant-loop-depth : goal.invariant-loop-depth
invariant-loop-depth l = (e : ℕ) → e < l.depth → place_in l.first e ≡ place_in l.other e
