use Rattle.std.proofs.Common.{◌+◌, length}
use Rattle.std.specs.Prelude.{Ok}
use Rattle.ip_ground.proofs.Spans.{only_on}
use Rattle.ip_chunks.specs.Places.{IsChunkBetween}
use Rattle.ip_publish.proofs.Steps.{records_only, control_only, written_only, ready_b, newer_b, stops_at_write, stops_at_sync, records_kept, stops_at_prepare, makes_step}
use Rattle.ip_publish.proofs.publish.durable_step.Goals as goal

pub returns-in_err-append-clause-does : goal.returns-in_err-append-clause-does
returns-in_err-append-clause-does g c told sound = stops_at_write c.args.end c.args.bytes.now c.args.slot c.args.fields.now _ sound _ _ _ c.from_residual.ensures.0 (c.append.ensures.does told sound.reaches)

pub returns-in_err-sync_range-clause-does : goal.returns-in_err-sync_range-clause-does
returns-in_err-sync_range-clause-does g c told sound =
    stops_at_sync c.args.end c.args.bytes.now c.args.slot c.args.fields.now _ sound _ _ (c.in_ok-append.ensures.does told sound.reaches) _ _ c.from_residual-in_err-sync_range.ensures.0 (c.sync_range.ensures.does told)

pub returns-in_err-prepare-clause-does : goal.returns-in_err-prepare-clause-does
returns-in_err-prepare-clause-does g c told sound =
    let a = g.G.Ground.told c.args.outside.now in
    let b = g.G.Ground.told c.append.new.outside in
    let synced = g.G.Ground.told c.sync_range.new.outside in
    let appends = c.in_ok-append.ensures.does told sound.reaches in
    let syncs = c.in_ok-sync_range.ensures.does told in
    let only = written_only c.args.end c.args.bytes.now c.args.slot c.args.fields.now a sound b synced (Ok tt) (Ok tt) appends syncs in
    stops_at_prepare c.args.end c.args.bytes.now c.args.slot c.args.fields.now a sound synced (g.G.Ground.told c.prepare.new.outside) (records_kept c.args.end c.args.bytes.now c.args.slot c.args.fields.now a sound b synced appends syncs)
    _ (c.prepare.ensures.does told (ready_b c.args.end c.args.bytes.now c.args.slot c.args.fields.now a sound synced only) (newer_b c.args.end c.args.bytes.now c.args.slot c.args.fields.now a sound synced only)) _ c.from_residual-in_err-prepare.ensures.0

pub returns-clause-does : goal.returns-clause-does
returns-clause-does g c told sound =
    let a = g.G.Ground.told c.args.outside.now in
    let b = g.G.Ground.told c.append.new.outside in
    let synced = g.G.Ground.told c.sync_range.new.outside in
    let appends = c.in_ok-append.ensures.does told sound.reaches in
    let syncs = c.in_ok-sync_range.ensures.does told in
    let only = written_only c.args.end c.args.bytes.now c.args.slot c.args.fields.now a sound b synced (Ok tt) (Ok tt) appends syncs in
    let prepared = c.in_ok-prepare.ensures.does told (ready_b c.args.end c.args.bytes.now c.args.slot c.args.fields.now a sound synced only) (newer_b c.args.end c.args.bytes.now c.args.slot c.args.fields.now a sound synced only) in
    makes_step c.args.end c.args.bytes.now c.args.slot c.args.fields.now a sound synced (g.G.Ground.told c.prepare.new.outside) (g.G.Ground.told c.open_gate.new.outside) (records_kept c.args.end c.args.bytes.now c.args.slot c.args.fields.now a sound b synced appends syncs) prepared (g.met.G.Ground.possible _ told) _ (c.open_gate.ensures.does told prepared.ok)

pub returns-in_err-append-clause-only : goal.returns-in_err-append-clause-only
returns-in_err-append-clause-only g c told = records_only c.args.fields.now.chunk c.args.end (c.args.end + length c.args.bytes.now) _ _ (c.append.ensures.only told)

pub returns-in_err-sync_range-clause-only : goal.returns-in_err-sync_range-clause-only
returns-in_err-sync_range-clause-only g c told =
    let size = c.args.fields.now.chunk in
    let to = c.args.end + length c.args.bytes.now in
    records_only size c.args.end to _ _ (only_on _ _ _ (IsChunkBetween size c.args.end to) (c.in_ok-append.ensures.only told) (c.sync_range.ensures.does told).only.changes)

pub returns-in_err-prepare-clause-only : goal.returns-in_err-prepare-clause-only
returns-in_err-prepare-clause-only g c told =
    let size = c.args.fields.now.chunk in
    let to = c.args.end + length c.args.bytes.now in
    let records = records_only size c.args.end to _ _ (only_on _ _ _ (IsChunkBetween size c.args.end to) (c.in_ok-append.ensures.only told) (c.in_ok-sync_range.ensures.does told).only.changes) in
    control_only size c.args.end to _ _ _ records (c.prepare.ensures.only told)

pub returns-clause-only : goal.returns-clause-only
returns-clause-only g c told =
    let size = c.args.fields.now.chunk in
    let to = c.args.end + length c.args.bytes.now in
    let records = records_only size c.args.end to _ _ (only_on _ _ _ (IsChunkBetween size c.args.end to) (c.in_ok-append.ensures.only told) (c.in_ok-sync_range.ensures.does told).only.changes) in
    control_only size c.args.end to _ _ _ (control_only size c.args.end to _ _ _ records (c.in_ok-prepare.ensures.only told)) (c.open_gate.ensures.only told)
