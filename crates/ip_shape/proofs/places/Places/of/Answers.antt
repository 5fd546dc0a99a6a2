use Rattle.std.proofs.Common.{◌<◌, ℕ, List, subst, sym, All}
use Rattle.ip_shape.proofs.Digests.{of_bytes}
use Rattle.ip_shape.proofs.places.Places.of.Goals as goal

pub invariant_of-result : goal.invariant_of-result
invariant_of-result c = subst (λ (digest : List ℕ). All (λ b. b < 256) digest) (sym c.digest.ensures) (of_bytes c.bytes.result.now)
