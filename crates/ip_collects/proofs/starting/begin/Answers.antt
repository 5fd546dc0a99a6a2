use Rattle.std.proofs.Common.{◌≡◌, rules, [], ◌∷◌, Ok, Err, sym, subst}
use Rattle.ip_held.specs.declared.fault.StoreFault.TheVariants as StoreFault
use Rattle.ip_held.specs.TableRecord.{table_of}
use Rattle.ip_collects.specs.declared.starting.CollectFault.TheVariants as CollectFault
use Rattle.ip_collects.specs.Starting.{StartsCollection}
use Rattle.ip_collects.proofs.Begun.{cut_beside, lent_beside, may_begin, begun_step, starts_cut, starts_lent, begun_list, begun_front}
use Rattle.ip_collects.proofs.starting.begin.Goals as goal

pub take-requires-clause-may : goal.take-requires-clause-may
take-requires-clause-may g c = may_begin c.requires.tables.0 c.args.store.now c.requires.tables.1 c.args.start.now c.requires.tables.2 c.requires.tables.3 c.requires.idle c.as_slice.result.now c.as_slice.ensures.value

-- ---- the step was cut short

pub returns-in-Err-clause-any_moment : goal.returns-in-Err-clause-any_moment
returns-in-Err-clause-any_moment g c told r number held is =
    let cut : c.take.result ≡ Err StoreFault.Ground = search rules in
    starts_cut r c.args.store.now number c.args.start.now held.tables is c.requires.idle (g.G.Ground.told c.args.outside.now) held c.take.new.self (g.G.Ground.told c.take.new.outside) c.take.result cut
    (c.take.ensures.took told r r ((c.args.store.now.slot.end, table_of r) ∷ []) held (begun_step r c.args.store.now number c.args.start.now held.tables is c.requires.idle c.as_slice.result.now c.as_slice.ensures.value (g.G.Ground.told c.args.outside.now) held))

pub returns-in-Err-clause-fronts : goal.returns-in-Err-clause-fronts
returns-in-Err-clause-fronts g c told r number held is =
    (c.take.ensures.took told r r ((c.args.store.now.slot.end, table_of r) ∷ []) held (begun_step r c.args.store.now number c.args.start.now held.tables is c.requires.idle c.as_slice.result.now c.as_slice.ensures.value (g.G.Ground.told c.args.outside.now) held)).fronts

-- ---- the attempt was not lent

pub returns-in_err-lend-clause-any_moment : goal.returns-in_err-lend-clause-any_moment
returns-in_err-lend-clause-any_moment g c told r number held is =
    let ok : c.take.result ≡ Ok tt = search rules in
    let e : c.from_residual.result ≡ Err CollectFault.Ground = search rules in
    subst (λ res. StartsCollection {A = Unit {0}} r c.args.start.now.job.attempt res c.take.new.self (g.G.Ground.told c.args.outside.now) (g.G.Ground.told c.lend.new.self)) (sym e)
    (starts_lent r c.args.store.now number c.args.start.now held.tables is c.requires.idle (g.G.Ground.told c.args.outside.now) held c.take.new.self (g.G.Ground.told c.take.new.outside) c.take.result ok c.take.ensures.taken
    (c.take.ensures.took told r r ((c.args.store.now.slot.end, table_of r) ∷ []) held (begun_step r c.args.store.now number c.args.start.now held.tables is c.requires.idle c.as_slice.result.now c.as_slice.ensures.value (g.G.Ground.told c.args.outside.now) held))
    (g.met.G.Ground.possible _ told) (g.G.Ground.told c.lend.new.self) c.lend.result (c.lend.ensures.does told) (g.met.G.Ground.possible _ told) (Err CollectFault.Ground) (λ begins. absurd begins))

pub returns-in_err-lend-clause-fronts : goal.returns-in_err-lend-clause-fronts
returns-in_err-lend-clause-fronts g c told r number held is =
    let ok : c.take.result ≡ Ok tt = search rules in
    begun_front r c.args.store.now number c.args.start.now held.tables is c.requires.idle (g.G.Ground.told c.args.outside.now) held c.take.new.self (g.G.Ground.told c.take.new.outside) c.take.result ok c.take.ensures.taken
    (c.take.ensures.took told r r ((c.args.store.now.slot.end, table_of r) ∷ []) held (begun_step r c.args.store.now number c.args.start.now held.tables is c.requires.idle c.as_slice.result.now c.as_slice.ensures.value (g.G.Ground.told c.args.outside.now) held))
    (g.met.G.Ground.possible _ told) (g.G.Ground.told c.lend.new.self) c.lend.result (c.lend.ensures.does told)

-- ---- a child was started

pub returns-in-Ok-clause-any_moment : goal.returns-in-Ok-clause-any_moment
returns-in-Ok-clause-any_moment g c told r number held is =
    let ok : c.take.result ≡ Ok tt = search rules in
    starts_lent r c.args.store.now number c.args.start.now held.tables is c.requires.idle (g.G.Ground.told c.args.outside.now) held c.take.new.self (g.G.Ground.told c.take.new.outside) c.take.result ok c.take.ensures.taken
    (c.take.ensures.took told r r ((c.args.store.now.slot.end, table_of r) ∷ []) held (begun_step r c.args.store.now number c.args.start.now held.tables is c.requires.idle c.as_slice.result.now c.as_slice.ensures.value (g.G.Ground.told c.args.outside.now) held))
    (g.met.G.Ground.possible _ told) (g.G.Ground.told c.lend.new.self) c.lend.result (c.lend.ensures.does told) (g.met.G.Ground.possible _ told) (Ok tt) (λ begins. (c.in_ok-lend.ensures.does told).ok)

pub returns-in-Ok-clause-fronts : goal.returns-in-Ok-clause-fronts
returns-in-Ok-clause-fronts g c told r number held is =
    let ok : c.take.result ≡ Ok tt = search rules in
    begun_front r c.args.store.now number c.args.start.now held.tables is c.requires.idle (g.G.Ground.told c.args.outside.now) held c.take.new.self (g.G.Ground.told c.take.new.outside) c.take.result ok c.take.ensures.taken
    (c.take.ensures.took told r r ((c.args.store.now.slot.end, table_of r) ∷ []) held (begun_step r c.args.store.now number c.args.start.now held.tables is c.requires.idle c.as_slice.result.now c.as_slice.ensures.value (g.G.Ground.told c.args.outside.now) held))
    (g.met.G.Ground.possible _ told) (g.G.Ground.told c.lend.new.self) c.lend.result (c.lend.ensures.does told)

-- ---- none was

pub returns-in-Err-start-clause-any_moment : goal.returns-in-Err-start-clause-any_moment
returns-in-Err-start-clause-any_moment g c told r number held is =
    let ok : c.take.result ≡ Ok tt = search rules in
    starts_lent r c.args.store.now number c.args.start.now held.tables is c.requires.idle (g.G.Ground.told c.args.outside.now) held c.take.new.self (g.G.Ground.told c.take.new.outside) c.take.result ok c.take.ensures.taken
    (c.take.ensures.took told r r ((c.args.store.now.slot.end, table_of r) ∷ []) held (begun_step r c.args.store.now number c.args.start.now held.tables is c.requires.idle c.as_slice.result.now c.as_slice.ensures.value (g.G.Ground.told c.args.outside.now) held))
    (g.met.G.Ground.possible _ told) (g.G.Ground.told c.lend.new.self) c.lend.result (c.lend.ensures.does told) (g.met.G.Ground.possible _ told) (Err CollectFault.Start) (λ begins. (c.in_ok-lend.ensures.does told).ok)

pub returns-in-Err-start-clause-fronts : goal.returns-in-Err-start-clause-fronts
returns-in-Err-start-clause-fronts g c told r number held is =
    let ok : c.take.result ≡ Ok tt = search rules in
    begun_front r c.args.store.now number c.args.start.now held.tables is c.requires.idle (g.G.Ground.told c.args.outside.now) held c.take.new.self (g.G.Ground.told c.take.new.outside) c.take.result ok c.take.ensures.taken
    (c.take.ensures.took told r r ((c.args.store.now.slot.end, table_of r) ∷ []) held (begun_step r c.args.store.now number c.args.start.now held.tables is c.requires.idle c.as_slice.result.now c.as_slice.ensures.value (g.G.Ground.told c.args.outside.now) held))
    (g.met.G.Ground.possible _ told) (g.G.Ground.told c.lend.new.self) c.lend.result (c.lend.ensures.does told)

pub returns-in-Ok-clause-list : goal.returns-in-Ok-clause-list
returns-in-Ok-clause-list g c told begins r number held is =
    let ok : c.take.result ≡ Ok tt = search rules in
    begun_list r c.args.store.now number c.args.start.now held.tables is c.requires.idle (g.G.Ground.told c.args.outside.now) held c.take.new.self (g.G.Ground.told c.take.new.outside) c.take.result ok c.take.ensures.taken
    (c.take.ensures.took told r r ((c.args.store.now.slot.end, table_of r) ∷ []) held (begun_step r c.args.store.now number c.args.start.now held.tables is c.requires.idle c.as_slice.result.now c.as_slice.ensures.value (g.G.Ground.told c.args.outside.now) held))
    (g.met.G.Ground.possible _ told) (g.G.Ground.told c.lend.new.self) c.lend.result (c.lend.ensures.does told)

pub returns-in-Err-start-clause-list : goal.returns-in-Err-start-clause-list
returns-in-Err-start-clause-list g c told begins r number held is =
    let ok : c.take.result ≡ Ok tt = search rules in
    begun_list r c.args.store.now number c.args.start.now held.tables is c.requires.idle (g.G.Ground.told c.args.outside.now) held c.take.new.self (g.G.Ground.told c.take.new.outside) c.take.result ok c.take.ensures.taken
    (c.take.ensures.took told r r ((c.args.store.now.slot.end, table_of r) ∷ []) held (begun_step r c.args.store.now number c.args.start.now held.tables is c.requires.idle c.as_slice.result.now c.as_slice.ensures.value (g.G.Ground.told c.args.outside.now) held))
    (g.met.G.Ground.possible _ told) (g.G.Ground.told c.lend.new.self) c.lend.result (c.lend.ensures.does told)

-- ---- no other file is touched

pub returns-in-Err-clause-beside : goal.returns-in-Err-clause-beside
returns-in-Err-clause-beside g c told = cut_beside c.args.start.now.job.attempt _ _ (c.take.ensures.beside told)

pub returns-in_err-lend-clause-beside : goal.returns-in_err-lend-clause-beside
returns-in_err-lend-clause-beside g c told = lent_beside c.args.start.now.job.attempt _ _ _ c.lend.result (c.take.ensures.beside told) (c.lend.ensures.does told)

pub returns-in-Ok-clause-beside : goal.returns-in-Ok-clause-beside
returns-in-Ok-clause-beside g c told = lent_beside c.args.start.now.job.attempt _ _ _ c.lend.result (c.take.ensures.beside told) (c.lend.ensures.does told)

pub returns-in-Err-start-clause-beside : goal.returns-in-Err-start-clause-beside
returns-in-Err-start-clause-beside g c told = lent_beside c.args.start.now.job.attempt _ _ _ c.lend.result (c.take.ensures.beside told) (c.lend.ensures.does told)
