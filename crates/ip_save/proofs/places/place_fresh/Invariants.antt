use Rattle.std.proofs.Common.{drop}
use Rattle.ip_save.specs.Earlier.{slices_of}
use Rattle.ip_save.specs.Reused.{told_fresh}
use Rattle.ip_save.proofs.Placing.{PlacesOn}
use Rattle.ip_save.proofs.places.place_fresh.Given as goal

abbrev pub invariant-loop-one : goal.invariant-loop-one
invariant-loop-one l = PlacesOn l.end (told_fresh l.fresh) (told_fresh (drop l.one-index l.fresh)) l.next (slices_of l.put.items) l.places l.refs.items
