use Rattle.std.proofs.Common.{◌≡◌, rules, sym, ◌∙◌, ap, length, subst}
use Rattle.std.specs.Prelude.{Err}
use Rattle.ip_held.specs.declared.fault.StoreFault.TheVariants as StoreFault
use Rattle.ip_appends.specs.Naming.{AppendsRecord}
use Rattle.ip_appends.proofs.BranchSteps.{record_limited, record_may, record_memory, record_taken}
use Rattle.ip_appends.proofs.naming.append_branch_record.Goals as goal

pub returns-in_err-bytes-clause-appends : goal.returns-in_err-bytes-clause-appends
returns-in_err-bytes-clause-appends g c =
    let is : c.from_residual.result ≡ Err StoreFault.Memory = search rules in
    let told = g.G.Ground.told c.args.outside.now in
    subst (λ res. AppendsRecord g.G.Ground.tells c.args.rec res c.args.store.now c.args.store.now told told) (sym is) (record_memory g.G.Ground.tells c.args.rec c.args.store.now told)

pub returns-in_err-slot-clause-appends : goal.returns-in_err-slot-clause-appends
returns-in_err-slot-clause-appends g c =
    let fault = c.in_err-slot.field-0.0 in
    let is : c.from_residual-in_err-slot.result ≡ Err fault = search rules in
    let counted : c.len.result ≡ length c.in_ok-bytes.bytes.items = search rules in
    let told = g.G.Ground.told c.args.outside.now in
    subst (λ res. AppendsRecord g.G.Ground.tells c.args.rec res c.args.store.now c.args.store.now told told) (sym is)
    (record_limited g.G.Ground.tells c.args.rec c.args.store.now told fault c.len.result (counted ∙ ap length c.in_ok-bytes.ensures) c.requires.tables.0 c.requires.tables.1 c.in_err-slot.ensures)

pub take-requires-clause-may : goal.take-requires-clause-may
take-requires-clause-may g c =
    let counted : c.len.result ≡ length c.as_slice.result.now = search rules in
    record_may g.G.Ground.tells c.args.rec c.requires.fits c.requires.served c.args.store.now c.requires.above _ (c.as_slice.ensures.value ∙ c.in_ok-bytes.ensures) c.in_ok-slot.slot c.len.result counted c.in_ok-slot.ensures c.requires.tables.0 c.requires.tables.1 c.requires.tables.2

pub returns-clause-appends : goal.returns-clause-appends
returns-clause-appends g c =
    let counted : c.len.result ≡ length c.as_slice.result.now = search rules in
    record_taken g.G.Ground.tells c.args.rec c.requires.fits c.requires.served c.args.store.now c.requires.above _ (c.as_slice.ensures.value ∙ c.in_ok-bytes.ensures) c.in_ok-slot.slot c.len.result counted c.in_ok-slot.ensures
    c.take.result c.take.new.self (g.G.Ground.told c.args.outside.now) (g.G.Ground.told c.take.new.outside) c.take.ensures.taken (λ e. (c.take.ensures.refused e).0) (λ tells e. ap g.G.Ground.told (c.take.ensures.refused e).1) c.take.ensures.fault c.take.ensures.took
    c.requires.tables.0 c.requires.tables.1 c.requires.tables.2 c.take.ensures.same_collection c.take.ensures.unswept c.take.ensures.grew c.take.ensures.clear c.take.ensures.beside
