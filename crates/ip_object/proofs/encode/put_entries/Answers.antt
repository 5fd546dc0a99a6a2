use Rattle.std.proofs.Common.{take, flat_map, rules}
use Rattle.ip_spec.specs.Record.{entry_spelling}
use Rattle.ip_object.specs.Lists.{Extends}
use Rattle.ip_object.proofs.PutLemmas.{extends_on}
use Rattle.ip_object.proofs.encode.put_entries.Goals as goal

pub returns-in_err-put_entry-clause-err : goal.returns-in_err-put_entry-clause-err
returns-in_err-put_entry-clause-err c =
    let more : Extends c.args.out.now.items c.put_entry.new.out.items =
    extends_on c.args.out.now.items (flat_map entry_spelling (take c.loop-entry.entry-index c.args.entries.now)) c.loop-entry.out.items c.put_entry.new.out.items c.loop-entry.invariant c.in_err-put_entry.ensures.err in
    search rules
