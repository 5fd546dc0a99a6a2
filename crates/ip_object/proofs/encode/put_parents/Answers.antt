use Rattle.std.proofs.Common.{◌++◌, take, flat_map, rules}
use Rattle.ip_spec.specs.Record.{u64}
use Rattle.ip_object.specs.Lists.{Extends}
use Rattle.ip_object.proofs.PutLemmas.{extends_on, extends_put}
use Rattle.ip_spec.specs.declared.record.Parent.{Parent}
use Rattle.ip_object.proofs.encode.put_parents.Goals as goal

pub returns-in_err-put_bytes-clause-err : goal.returns-in_err-put_bytes-clause-err
returns-in_err-put_bytes-clause-err c =
    let more : Extends c.args.out.now.items c.put_bytes.new.out.items =
    extends_on c.args.out.now.items (flat_map (λ (p : Parent). u64 p.number ++ p.name) (take c.loop-parent.parent-index c.args.parents.now)) c.loop-parent.out.items c.put_bytes.new.out.items c.loop-parent.invariant (extends_put c.loop-parent.out.items _ c.put_u64.new.out.items c.put_bytes.new.out.items c.in_ok-put_u64.ensures.ok c.in_err-put_bytes.ensures.err) in
    search rules
