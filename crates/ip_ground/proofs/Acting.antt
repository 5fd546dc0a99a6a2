-- The acts of a child before a call, one after the other.
use Rattle.std.proofs.Common.{ℕ, List, [], ◌∷◌, ◌++◌, refl, subst}
use Rattle.ip_ground.specs.declared.event.Act.{Act}
use Rattle.ip_ground.specs.declared.event.Event.{Event}
use Rattle.ip_ground.specs.Acting.{Acts, Plays}

pub plays_more : (acts : List Act) (act : Act) (call : ℕ) (old mid new : List Event) → Plays acts call old mid → Acts act call mid new → Plays (acts ++ act ∷ []) call old new
plays_more [] act call old mid new plays does = (new, subst (λ (l : List Event). Acts act call l new) plays does, refl)
plays_more (first ∷ acts) act call old mid new plays does = (plays.0, plays.1, plays_more acts act call plays.0 mid new plays.2 does)
