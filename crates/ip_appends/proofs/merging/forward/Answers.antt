use Rattle.std.proofs.Common.{◌≡◌, rules, sym, subst}
use Rattle.std.specs.Prelude.{Ok, Err}
use Rattle.ip_spec.specs.Record.{Fits}
use Rattle.ip_image.specs.Appending.{MayName}
use Rattle.ip_held.specs.declared.fault.StoreFault.TheVariants as StoreFault
use Rattle.ip_held.specs.Collecting.{IsAbove}
use Rattle.ip_appends.specs.Merging.{Forwards}
use Rattle.ip_appends.specs.Naming.{AppendsRecord}
use Rattle.ip_appends.proofs.BranchTurns.{set_fits}
use Rattle.ip_appends.proofs.Forwarding.{forward_may, forward_above, forward_done, forward_memory}
use Rattle.ip_appends.proofs.merging.forward.Goals as goal

pub returns-in_err-rec-clause-forwards : goal.returns-in_err-rec-clause-forwards
returns-in_err-rec-clause-forwards g c =
    let same : c.from_residual.result ≡ Err StoreFault.Memory = search rules in
    subst (λ res. Forwards g.G.Ground.tells c.args.number c.args.branch.now res c.args.store.now c.args.store.now (g.G.Ground.told c.args.outside.now) (g.G.Ground.told c.args.outside.now)) (sym same)
    (forward_memory c.args.branch.now c.args.number c.args.store.now g.G.Ground.tells (g.G.Ground.told c.args.outside.now))

pub append_branch_record-requires-clause-tables : goal.append_branch_record-requires-clause-tables
append_branch_record-requires-clause-tables g c =
    let r = c.requires.tables.0 in
    let of = c.requires.tables.1 in
    (r, of, subst (MayName r) (sym c.in_ok-rec.ensures) (forward_may c.args.branch.now c.args.number c.args.store.now r of c.requires.tables.2))

pub append_branch_record-requires-clause-above : goal.append_branch_record-requires-clause-above
append_branch_record-requires-clause-above g c = subst (IsAbove c.args.store.now.collection) (sym c.in_ok-rec.ensures) (forward_above c.args.branch.now c.args.number c.args.store.now c.requires.tables.0 c.requires.tables.1 c.requires.tables.2)

pub append_branch_record-requires-clause-fits : goal.append_branch_record-requires-clause-fits
append_branch_record-requires-clause-fits g c = subst (Fits 1) (sym c.in_ok-rec.ensures) (set_fits c.requires.tables.0 c.args.branch.now c.args.number c.args.store.now c.requires.tables.1 c.requires.tables.2.retained c.requires.branch)

pub returns-in_err-append_branch_record-clause-forwards : goal.returns-in_err-append_branch_record-clause-forwards
returns-in_err-append_branch_record-clause-forwards g c =
    let fault = c.in_err-append_branch_record.field-0.0 in
    let same : c.from_residual-in_err-append_branch_record.result ≡ Err fault = search rules in
    subst (λ res. Forwards g.G.Ground.tells c.args.number c.args.branch.now res c.args.store.now c.append_branch_record.new.store (g.G.Ground.told c.args.outside.now) (g.G.Ground.told c.append_branch_record.new.outside)) (sym same)
    (forward_done c.args.branch.now c.args.number c.args.store.now g.G.Ground.tells c.retained_name-name.result (Err fault) c.append_branch_record.new.store (g.G.Ground.told c.args.outside.now) (g.G.Ground.told c.append_branch_record.new.outside)
    (λ r of forward. c.retained_name-name.ensures r of forward.retained)
    (subst (λ x. AppendsRecord g.G.Ground.tells x (Err fault) c.args.store.now c.append_branch_record.new.store (g.G.Ground.told c.args.outside.now) (g.G.Ground.told c.append_branch_record.new.outside)) c.in_ok-rec.ensures c.in_err-append_branch_record.ensures.appends))

pub returns-clause-forwards : goal.returns-clause-forwards
returns-clause-forwards g c =
    forward_done c.args.branch.now c.args.number c.args.store.now g.G.Ground.tells c.retained_name-name.result (Ok tt) c.append_branch_record.new.store (g.G.Ground.told c.args.outside.now) (g.G.Ground.told c.append_branch_record.new.outside)
    (λ r of forward. c.retained_name-name.ensures r of forward.retained)
    (subst (λ x. AppendsRecord g.G.Ground.tells x (Ok tt) c.args.store.now c.append_branch_record.new.store (g.G.Ground.told c.args.outside.now) (g.G.Ground.told c.append_branch_record.new.outside)) c.in_ok-rec.ensures c.in_ok-append_branch_record.ensures.appends)
