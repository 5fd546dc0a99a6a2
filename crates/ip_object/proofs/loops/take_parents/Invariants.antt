use Rattle.ip_object.specs.Body.{left_in, IsInside}
use Rattle.ip_object.proofs.Listing.{IsAt, parents_from}
use Rattle.ip_object.proofs.loops.take_parents.Given as goal

abbrev pub invariant-loop : goal.invariant-loop
invariant-loop l = record { inside : IsInside l.body; at : IsAt parents_from l.fn.count l.counter l.parents.items (left_in l.fn.body) (left_in l.body) }
