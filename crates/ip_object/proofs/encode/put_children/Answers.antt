use Rattle.std.proofs.Common.{take, flat_map, rules}
use Rattle.ip_spec.specs.Record.{child_spelling}
use Rattle.ip_object.specs.Lists.{Extends}
use Rattle.ip_object.proofs.PutLemmas.{extends_on}
use Rattle.ip_object.proofs.encode.put_children.Goals as goal

pub returns-in_err-put_child-clause-err : goal.returns-in_err-put_child-clause-err
returns-in_err-put_child-clause-err c =
    let more : Extends c.args.out.now.items c.put_child.new.out.items =
    extends_on c.args.out.now.items (flat_map child_spelling (take c.loop-child.child-index c.args.children.now)) c.loop-child.out.items c.put_child.new.out.items c.loop-child.invariant c.in_err-put_child.ensures.err in
    search rules
