use Rattle.std.proofs.Common.{sym, ◌∙◌, ap, subst, length}
use Rattle.ip_spec.specs.Record.{Fits, spelling}
use Rattle.ip_held.specs.Collecting.{IsPhaseOf}
use Rattle.ip_collects.proofs.Started.{table_there, planned}
use Rattle.ip_held.proofs.TableRecords.{table_fits}
use Rattle.ip_collects.proofs.starting.plan_collect.Goals as goal

pub retained_name-requires : goal.retained_name-requires
retained_name-requires c =
    let r = c.requires.tables.0 in
    let of = c.requires.tables.1 in
    record { tables = (r, of, (subst (IsPhaseOf c.args.store.now.slot r) c.in-Some.is of.phase).retained) }

pub spelled-requires : goal.spelled-requires
spelled-requires c =
    let r = c.requires.tables.0 in
    let of = c.requires.tables.1 in
    subst (Fits 1) (sym (table_there r c.args.store.now of c.in_ok-rec.rec c.in_ok-rec.ensures)) (table_fits c.args.store.now r of)

pub returns-clause-planned : goal.returns-clause-planned
returns-clause-planned c r of retained =
    let spells = c.in_ok-bytes.ensures ∙ ap spelling (table_there r c.args.store.now of c.in_ok-rec.rec c.in_ok-rec.ensures) in
    planned r c.args.store.now c.args.number of c.in_ok-bytes.bytes spells c.place_of.result c.place_of.ensures c.in-Ok.slot _ (ap length (c.as_slice.ensures.value ∙ spells)) c.in-Ok.ensures c.if-store-ge-OFFSET_MAX.false
