use Rattle.std.proofs.Common.{refl, sym, ap, ◌∙◌, arith}
use Rattle.std.specs.Prelude.{is_some}
use Rattle.ip_held.proofs.Reading.{read_index, some_of}
use Rattle.ip_opens.proofs.MadeStores.{to_control, not_open, is_there, fails, of_spelled, write_only, sync_only, makes}
use Rattle.ip_opens.proofs.making.init.Goals as goal

pub returns-in_err-count-clause-does : goal.returns-in_err-count-clause-does
returns-in_err-count-clause-does g c told =
    let passes = (c.read.ensures.does told).only in
    fails _ _ _ _ c.from_residual.ensures.1 (to_control _ _ passes) (λ is. passes)

pub returns-then-has_open_slot-clause-does : goal.returns-then-has_open_slot-clause-does
returns-then-has_open_slot-clause-does g c told =
    let reads = c.in_ok-count.ensures.does told in
    is_there _ _ _ reads.only (some_of _ _ (read_index _ _ _ _ _ refl reads) (sym c.has_open_slot.ensures ∙ c.if-has_open_slot.true))

pub returns-in_err-write-clause-does : goal.returns-in_err-write-clause-does
returns-in_err-write-clause-does g c told =
    let reads = c.in_ok-count.ensures.does told in
    let writes = of_spelled c.args.chunk _ _ _ _ c.fresh_control.ensures (c.write.ensures.does told (omega arith)) in
    let closed = ap is_some (sym (read_index _ _ _ _ _ refl reads)) ∙ sym c.has_open_slot.ensures ∙ c.if-has_open_slot.false in
    fails _ _ _ _ c.from_residual-in_err-write.ensures.1 (write_only c.args.chunk _ _ _ reads.only _ writes) (not_open _ _ reads.only closed)

pub returns-in_err-sync-clause-does : goal.returns-in_err-sync-clause-does
returns-in_err-sync-clause-does g c told =
    let reads = c.in_ok-count.ensures.does told in
    let writes = of_spelled c.args.chunk _ _ _ _ c.fresh_control.ensures (c.in_ok-write.ensures.does told (omega arith)) in
    let closed = ap is_some (sym (read_index _ _ _ _ _ refl reads)) ∙ sym c.has_open_slot.ensures ∙ c.if-has_open_slot.false in
    fails _ _ _ _ c.from_residual-in_err-sync.ensures.1 (sync_only c.args.chunk _ _ _ _ reads.only writes _ (c.sync.ensures.does told)) (not_open _ _ reads.only closed)

pub returns-clause-does : goal.returns-clause-does
returns-clause-does g c told =
    let reads = c.in_ok-count.ensures.does told in
    let writes = of_spelled c.args.chunk _ _ _ _ c.fresh_control.ensures (c.in_ok-write.ensures.does told (omega arith)) in
    let closed = ap is_some (sym (read_index _ _ _ _ _ refl reads)) ∙ sym c.has_open_slot.ensures ∙ c.if-has_open_slot.false in
    makes c.args.chunk c.requires _ _ _ _ reads.only closed writes (c.in_ok-sync.ensures.does told)
