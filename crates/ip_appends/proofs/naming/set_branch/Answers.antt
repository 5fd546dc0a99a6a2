use Rattle.std.proofs.Common.{◌≡◌, Some, rules, refl, sym, subst}
use Rattle.std.specs.Prelude.{Err, Ok}
use Rattle.ip_spec.specs.Record.{Fits}
use Rattle.ip_spec.specs.Repository.{Repository}
use Rattle.ip_spec.specs.Step.{room_for_branch}
use Rattle.ip_image.specs.Standing.{IsServedKind}
use Rattle.ip_image.specs.Appending.{MayName}
use Rattle.ip_held.specs.declared.fault.StoreFault.TheVariants as StoreFault
use Rattle.ip_held.specs.Collecting.{IsAbove, not_leaving_in, phase_of}
use Rattle.ip_held.specs.Held.{IsOf}
use Rattle.ip_held.proofs.Phases.{set_above}
use Rattle.ip_appends.specs.Naming.{AppendsRecord, SetsBranch}
use Rattle.ip_appends.proofs.BranchSteps.{set_done, set_full, set_left, set_short}
use Rattle.ip_appends.proofs.BranchTurns.{set_fits, set_may}
use Rattle.ip_appends.proofs.naming.set_branch.Goals as goal

-- a collection gives the commit up
pub returns-in_err-staying-clause-sets : goal.returns-in_err-staying-clause-sets
returns-in_err-staying-clause-sets g c =
    let fault = c.in_err-staying.field-0.0 in
    let is : c.from_residual.result ≡ Err fault = search rules in
    let told = g.G.Ground.told c.args.outside.now in
    subst (λ res. SetsBranch g.G.Ground.tells c.args.name.now c.args.number res c.args.store.now c.args.store.now told told) (sym is)
    (set_left g.G.Ground.tells c.args.name.now c.args.number c.args.store.now told fault c.in_err-staying.ensures.refused (c.in_err-staying.ensures.cause refl))

-- there is no room for one more
pub returns-in_err-room_for-clause-sets : goal.returns-in_err-room_for-clause-sets
returns-in_err-room_for-clause-sets g c =
    let fault = c.in_err-room_for.field-0.0 in
    let is : c.from_residual-in_err-room_for.result ≡ Err fault = search rules in
    let told = g.G.Ground.told c.args.outside.now in
    subst (λ res. SetsBranch g.G.Ground.tells c.args.name.now c.args.number res c.args.store.now c.args.store.now told told) (sym is)
    (set_full g.G.Ground.tells c.args.name.now c.args.number c.args.store.now told c.requires.tables.0 c.requires.tables.1 fault (search rules) c.in_err-room_for.ensures.refused)

-- the record's bytes could not be taken
pub returns-in_err-rec-clause-sets : goal.returns-in_err-rec-clause-sets
returns-in_err-rec-clause-sets g c =
    let is : c.from_residual-in_err-rec.result ≡ Err StoreFault.Memory = search rules in
    let stays : not_leaving_in (phase_of c.args.store.now.collection) (Some c.args.number) ≡ Ok tt = search rules in
    let room : (r : Repository) → IsOf c.args.store.now r → room_for_branch r c.args.name.now ≡ Ok tt = λ r of. search rules in
    let told = g.G.Ground.told c.args.outside.now in
    subst (λ res. SetsBranch g.G.Ground.tells c.args.name.now c.args.number res c.args.store.now c.args.store.now told told) (sym is) (set_short g.G.Ground.tells c.args.name.now c.args.number c.args.store.now told (λ r of. (stays, room r of)))

-- the record is appended, or a limit or a fault came
pub append_branch_record-requires-clause-tables : goal.append_branch_record-requires-clause-tables
append_branch_record-requires-clause-tables g c =
    let r = c.requires.tables.0 in
    let of = c.requires.tables.1 in
    let room : room_for_branch r c.args.name.now ≡ Ok tt = search rules in
    (r, of, subst (MayName r) (sym c.in_ok-rec.ensures) (set_may r c.args.name.now c.args.number c.args.store.now of c.requires.tables.2 room))

pub append_branch_record-requires-clause-above : goal.append_branch_record-requires-clause-above
append_branch_record-requires-clause-above g c =
    let stays : not_leaving_in (phase_of c.args.store.now.collection) (Some c.args.number) ≡ Ok tt = search rules in
    subst (IsAbove c.args.store.now.collection) (sym c.in_ok-rec.ensures) (set_above c.args.store.now.collection c.args.number c.args.name.now stays)

pub append_branch_record-requires-clause-served : goal.append_branch_record-requires-clause-served
append_branch_record-requires-clause-served g c = subst IsServedKind (sym c.in_ok-rec.ensures) tt

pub append_branch_record-requires-clause-fits : goal.append_branch_record-requires-clause-fits
append_branch_record-requires-clause-fits g c = subst (Fits 1) (sym c.in_ok-rec.ensures) (set_fits c.requires.tables.0 c.args.name.now c.args.number c.args.store.now c.requires.tables.1 c.requires.tables.2 c.requires.name)

pub returns-clause-sets : goal.returns-clause-sets
returns-clause-sets g c =
    let stays : not_leaving_in (phase_of c.args.store.now.collection) (Some c.args.number) ≡ Ok tt = search rules in
    let room : (r : Repository) → IsOf c.args.store.now r → room_for_branch r c.args.name.now ≡ Ok tt = λ r of. search rules in
    set_done g.G.Ground.tells c.args.name.now c.args.number c.args.store.now (g.G.Ground.told c.args.outside.now) stays room c.append_branch_record.result c.append_branch_record.new.store (g.G.Ground.told c.append_branch_record.new.outside)
    (subst (λ x. AppendsRecord g.G.Ground.tells x c.append_branch_record.result c.args.store.now c.append_branch_record.new.store (g.G.Ground.told c.args.outside.now) (g.G.Ground.told c.append_branch_record.new.outside)) c.in_ok-rec.ensures c.append_branch_record.ensures.appends)
