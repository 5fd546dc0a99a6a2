use Rattle.ip_opens.proofs.OpenedImages.{no_store}
use Rattle.std.proofs.Common.{◌≡◌, None, rules, sym, subst}
use Rattle.std.specs.Prelude.{Err}
use Rattle.ip_control.specs.declared.fault.ControlFault.{ControlFault}
use Rattle.ip_control.specs.Finding.{Finds}
use Rattle.ip_ground.specs.Counts.{CountsIf, DamageFound}
use Rattle.ip_ground.specs.declared.names.FileName.TheVariants.{Control}
use Rattle.ip_ground.specs.Told.{ChangesOnly, NoFile, Only}
use Rattle.ip_ground.proofs.Spans.{only_on, syncs_none}
use Rattle.ip_held.proofs.Reading.{control_passes}
use Rattle.ip_opens.specs.OpenFaults.{counted_open}
use Rattle.ip_opens.proofs.OpenedStores.{measured, sync_only, finds_fault, finds_none, finds, finds_form, found_some, found_none, found_form}
use Rattle.ip_opens.proofs.opening.find_slot.Goals as goal

pub returns-in_err-length-clause-does : goal.returns-in_err-length-clause-does
returns-in_err-length-clause-does g c told = finds_fault _ _ _ c.from_residual.ensures.1 (syncs_none _ _ (Only Control) (c.in_err-length.ensures.does told).only)

pub returns-then-is_none-clause-does : goal.returns-then-is_none-clause-does
returns-then-is_none-clause-does g c told =
    let measures = c.in_ok-length.ensures.does told in
    let none : (g.G.Ground.told c.length.new.self).held Control ≡ None = measured _ _ (search rules) measures.ok in
    finds_none _ _ measures.only none

pub returns-in_err-sync-clause-does : goal.returns-in_err-sync-clause-does
returns-in_err-sync-clause-does g c told =
    finds_fault _ _ _ c.from_residual-in_err-sync.ensures.1 (sync_only _ _ _ _ (c.in_ok-length.ensures.does told).only (c.sync.ensures.does told))

pub returns-in-Ok-Some-clause-does : goal.returns-in-Ok-Some-clause-does
returns-in-Ok-Some-clause-does g c told =
    finds _ _ _ _ (c.in_ok-length.ensures.does told).only (c.in_ok-sync.ensures.does told) (c.read_live.ensures.only told) _
    (found_some _ _ _ c.in-Ok-Some.field-0-is (c.in-Ok-Some.ensures.finds told))

pub returns-in-Ok-None-clause-does : goal.returns-in-Ok-None-clause-does
returns-in-Ok-None-clause-does g c told =
    finds _ _ _ _ (c.in_ok-length.ensures.does told).only (c.in_ok-sync.ensures.does told) (c.read_live.ensures.only told) _
    (no_store (g.G.Ground.told c.read_live.new.outside).held (found_none _ _ c.in-Ok-None.field-0-is (c.in-Ok-None.ensures.finds told)))

pub returns-in-Err-Form-clause-does : goal.returns-in-Err-Form-clause-does
returns-in-Err-Form-clause-does g c told =
    let read = g.G.Ground.told c.read_live.new.outside in
    let noted = g.G.Ground.told c.note_damage.new.self in
    let note : ChangesOnly NoFile read noted = c.note_damage.ensures.does told in
    finds_form _ _ _ _ (c.in_ok-length.ensures.does told).only (c.in_ok-sync.ensures.does told) (only_on _ _ _ NoFile (c.read_live.ensures.only told) note) c.in-Err-Form.index _
    (subst (λ bytes. Finds bytes (Err (ControlFault.Form c.in-Err-Form.index))) (sym (control_passes read noted note)) (found_form _ _ _ c.in-Err-Form.field-0-is (c.in-Err-Form.ensures.finds told))) c.slot_damaged.ensures

pub returns-in-Err-Form-clause-counts : goal.returns-in-Err-Form-clause-counts
returns-in-Err-Form-clause-counts g c =
    let before = g.G.Ground.counts_of c.args.outside.now in
    let after = g.G.Ground.counts_of c.note_damage.new.self in
    let same : g.G.Ground.counts_of c.read_live.new.outside ≡ before = search rules in
    subst (λ fault. CountsIf (counted_open fault) before after) (sym c.slot_damaged.ensures) (subst (λ n. DamageFound n after) same c.note_damage.ensures.counts)

pub returns-in-Err-Ground-clause-does : goal.returns-in-Err-Ground-clause-does
returns-in-Err-Ground-clause-does g c told = finds _ _ _ _ (c.in_ok-length.ensures.does told).only (c.in_ok-sync.ensures.does told) (c.read_live.ensures.only told) _ tt
