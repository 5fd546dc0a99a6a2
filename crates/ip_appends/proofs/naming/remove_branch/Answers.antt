use Rattle.std.proofs.Common.{◌≡◌, rules, sym, subst, ◌∙◌}
use Rattle.std.specs.Prelude.{Err, Ok}
use Rattle.ip_spec.specs.Record.{Fits}
use Rattle.ip_image.specs.Standing.{IsServedKind}
use Rattle.ip_image.specs.Appending.{MayName}
use Rattle.ip_held.specs.declared.fault.StoreFault.TheVariants as StoreFault
use Rattle.ip_held.specs.Collecting.{IsAbove}
use Rattle.ip_held.proofs.Phases.{removed_above}
use Rattle.ip_appends.specs.Naming.{AppendsRecord, RemovesBranch}
use Rattle.ip_appends.proofs.BranchSteps.{removed_cut, removed_done, removed_none, removed_short}
use Rattle.ip_appends.proofs.BranchTurns.{none_in, remove_fits, some_in}
use Rattle.ip_appends.proofs.naming.remove_branch.Goals as goal

-- there is none
pub returns-then-is_none-clause-removes : goal.returns-then-is_none-clause-removes
returns-then-is_none-clause-removes g c =
    removed_none g.G.Ground.tells c.args.name.now c.args.store.now (g.G.Ground.told c.args.outside.now) (λ r of. sym (c.head.ensures r of) ∙ none_in c.head.result (search rules))

-- the record's bytes could not be taken
pub returns-in_err-rec-clause-removes : goal.returns-in_err-rec-clause-removes
returns-in_err-rec-clause-removes g c =
    let is : c.from_residual.result ≡ Err StoreFault.Memory = search rules in
    let there = some_in c.head.result (search rules) in
    let told = g.G.Ground.told c.args.outside.now in
    subst (λ res. RemovesBranch g.G.Ground.tells c.args.name.now res c.args.store.now c.args.store.now told told) (sym is) (removed_short g.G.Ground.tells c.args.name.now c.args.store.now told (λ r of. (there.0, sym (c.head.ensures r of) ∙ there.1)))

-- the record is appended
pub append_branch_record-requires-clause-tables : goal.append_branch_record-requires-clause-tables
append_branch_record-requires-clause-tables g c = (c.requires.tables.0, c.requires.tables.1, subst (MayName c.requires.tables.0) (sym c.in_ok-rec.ensures) tt)

pub append_branch_record-requires-clause-above : goal.append_branch_record-requires-clause-above
append_branch_record-requires-clause-above g c = subst (IsAbove c.args.store.now.collection) (sym c.in_ok-rec.ensures) (removed_above c.args.store.now.collection c.args.name.now)

pub append_branch_record-requires-clause-served : goal.append_branch_record-requires-clause-served
append_branch_record-requires-clause-served g c = subst IsServedKind (sym c.in_ok-rec.ensures) tt

pub append_branch_record-requires-clause-fits : goal.append_branch_record-requires-clause-fits
append_branch_record-requires-clause-fits g c = subst (Fits 1) (sym c.in_ok-rec.ensures) (remove_fits c.requires.tables.0 c.args.name.now c.requires.name)

pub returns-clause-removes : goal.returns-clause-removes
returns-clause-removes g c =
    let there = some_in c.head.result (search rules) in
    removed_done g.G.Ground.tells c.args.name.now c.args.store.now (g.G.Ground.told c.args.outside.now) (λ r of. (there.0, sym (c.head.ensures r of) ∙ there.1)) c.append_branch_record.new.store (g.G.Ground.told c.append_branch_record.new.outside)
    (subst (λ x. AppendsRecord g.G.Ground.tells x (Ok tt) c.args.store.now c.append_branch_record.new.store (g.G.Ground.told c.args.outside.now) (g.G.Ground.told c.append_branch_record.new.outside)) c.in_ok-rec.ensures c.in_ok-append_branch_record.ensures.appends)

-- a limit or a fault came
pub returns-in_err-append_branch_record-clause-removes : goal.returns-in_err-append_branch_record-clause-removes
returns-in_err-append_branch_record-clause-removes g c =
    let fault = c.in_err-append_branch_record.field-0.0 in
    let is : c.from_residual-in_err-append_branch_record.result ≡ Err fault = search rules in
    let there = some_in c.head.result (search rules) in
    subst (λ res. RemovesBranch g.G.Ground.tells c.args.name.now res c.args.store.now c.append_branch_record.new.store (g.G.Ground.told c.args.outside.now) (g.G.Ground.told c.append_branch_record.new.outside)) (sym is)
    (removed_cut g.G.Ground.tells c.args.name.now c.args.store.now (g.G.Ground.told c.args.outside.now) (λ r of. (there.0, sym (c.head.ensures r of) ∙ there.1)) c.append_branch_record.new.store (g.G.Ground.told c.append_branch_record.new.outside) fault
    (subst (λ x. AppendsRecord g.G.Ground.tells x (Err fault) c.args.store.now c.append_branch_record.new.store (g.G.Ground.told c.args.outside.now) (g.G.Ground.told c.append_branch_record.new.outside)) c.in_ok-rec.ensures c.in_err-append_branch_record.ensures.appends))
