use Rattle.std.proofs.Common.{◌≡◌, take}
use Rattle.ip_spec.specs.Record.{bitmap}
use Rattle.ip_object.proofs.encode.bitmap_of.Given as goal

abbrev pub invariant-loop-child : goal.invariant-loop-child
invariant-loop-child l = l.bits ≡ bitmap (take l.child-index l.children)
