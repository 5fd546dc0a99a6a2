use Rattle.std.proofs.Common.{◌≡◌, ◌++◌, take, flat_map}
use Rattle.ip_spec.specs.Record.{child_spelling}
use Rattle.ip_object.proofs.encode.put_children.Given as goal

abbrev pub invariant-loop-child : goal.invariant-loop-child
invariant-loop-child l = l.out.items ≡ l.fn.out.items ++ flat_map child_spelling (take l.child-index l.children)
