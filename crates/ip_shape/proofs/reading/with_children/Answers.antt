use Rattle.std.proofs.Common.{ap, ◌∙◌, sym}
use Rattle.ip_shape.specs.Reading.{placed_from}
use Rattle.ip_shape.proofs.InodeRead.{placed_last}
use Rattle.ip_shape.proofs.reading.with_children.Goals as goal

pub loop-child-preserved : goal.loop-child-preserved
loop-child-preserved g c =
    ap (placed_from c.pop.new.self.items) c.put_child.ensures ∙ sym (placed_last c.pop.new.self.items c.in-Some.child c.loop-child.placed.items)
    ∙ ap (λ given. placed_from given c.loop-child.placed.items) (sym c.in-Some.ensures.items) ∙ c.loop-child.invariant
