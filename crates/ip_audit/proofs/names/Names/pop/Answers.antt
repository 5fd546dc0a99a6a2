-- goals of `Names::pop`
use Rattle.std.proofs.Common.{subst}
use Rattle.ip_audit.specs.Placed.{ArePlaced}
use Rattle.ip_audit.proofs.Placing.{popped}
use Rattle.ip_audit.proofs.names.Names.pop.Goals as goal

pub invariant_of-self : goal.invariant_of-self
invariant_of-self c =
    popped c.pop.new.self.items c.self.inside.places c.remove.new.self c.in-Some.name (subst (λ ns. ArePlaced ns c.self.inside.places) c.in-Some.ensures.items c.self.invariant) c.remove.ensures.updates.0
