use Rattle.std.proofs.Common.{◌++◌, take, flat_map, rules}
use Rattle.ip_spec.specs.Record.{u64, short_text}
use Rattle.ip_spec.specs.declared.record.Branch.{Branch}
use Rattle.ip_object.specs.Lists.{Extends}
use Rattle.ip_object.proofs.PutLemmas.{extends_on, extends_put}
use Rattle.ip_object.proofs.encode.put_rows.Goals as goal

pub returns-in_err-put_short-clause-err : goal.returns-in_err-put_short-clause-err
returns-in_err-put_short-clause-err c =
    let more : Extends c.args.out.now.items c.put_short.new.out.items =
    extends_on c.args.out.now.items (flat_map (λ (row : Branch). short_text row.name ++ u64 row.number) (take c.loop-row.row-index c.args.rows.now)) c.loop-row.out.items c.put_short.new.out.items c.loop-row.invariant c.in_err-put_short.ensures.err in
    search rules

pub returns-in_err-put_u64-clause-err : goal.returns-in_err-put_u64-clause-err
returns-in_err-put_u64-clause-err c =
    let more : Extends c.args.out.now.items c.put_u64.new.out.items =
    extends_on c.args.out.now.items (flat_map (λ (row : Branch). short_text row.name ++ u64 row.number) (take c.loop-row.row-index c.args.rows.now)) c.loop-row.out.items c.put_u64.new.out.items c.loop-row.invariant (extends_put c.loop-row.out.items _ c.put_short.new.out.items c.put_u64.new.out.items c.in_ok-put_short.ensures.ok c.in_err-put_u64.ensures.err) in
    search rules
