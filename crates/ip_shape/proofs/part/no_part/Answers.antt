use Rattle.std.proofs.Common.{refl, [], sym, subst}
use Rattle.std.specs.Prelude.{None}
use Rattle.ip_shape.specs.Shape.{IsLeafOf}
use Rattle.ip_shape.proofs.Shapes.{out_leaf}
use Rattle.ip_shape.proofs.Ways.{fresh_leaf}
use Rattle.ip_shape.proofs.part.no_part.Goals as goal

pub returns-clause-empty : goal.returns-clause-empty
returns-clause-empty g c = subst (IsLeafOf []) (sym (out_leaf None c.new.result)) c.new.ensures.items

pub returns-clause-fresh : goal.returns-clause-fresh
returns-clause-fresh g c = fresh_leaf None c.new.result refl
