use Rattle.std.proofs.Common.{refl, [], sym, subst}
use Rattle.std.specs.Prelude.{None}
use Rattle.ip_shape.specs.Shape.{IsLeafOf}
use Rattle.ip_shape.proofs.Shapes.{out_leaf}
use Rattle.ip_shape.proofs.Ways.{fresh_leaf, unread_leaf}
use Rattle.ip_shape.proofs.dir.Dir.empty.Goals as goal

pub returns-clause-dir : goal.returns-clause-dir
returns-clause-dir g c = ((c.new.ensures.empty, tt, subst (IsLeafOf []) (sym (out_leaf None c.new-2.result)) c.new-2.ensures.items, refl), unread_leaf None c.new-2.result)

pub returns-clause-fresh : goal.returns-clause-fresh
returns-clause-fresh g c = fresh_leaf None c.new-2.result refl
