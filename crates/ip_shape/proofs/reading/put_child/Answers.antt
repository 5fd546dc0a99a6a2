use Rattle.std.proofs.Common.{arith, sym}
use Rattle.ip_shape.specs.declared.part.Part.TheVariants as variant
use Rattle.ip_shape.proofs.InodeRead.{set_past}
use Rattle.ip_shape.proofs.reading.put_child.Goals as goal

pub returns-else-index-len : goal.returns-else-index-len
returns-else-index-len g c =
    sym (set_past c.args.parts.now.items c.args.child.index (variant.Unread c.args.child.record c.args.child.count) (omega (arith, c.if-index-len.false, c.len.ensures, c.args.parts.now.ok.0)))
