use Rattle.std.proofs.Common.{◌≡◌, subst, None}
use Rattle.ip_held.specs.declared.collection.Collection.{Collection}
use Rattle.ip_collects.proofs.Judged.{heard_holds, heard_tables, same_one}
use Rattle.ip_collects.proofs.finishing.hear.Goals as goal

pub returns-clause-tables : goal.returns-clause-tables
returns-clause-tables g c r of =
    let (y, runs, none, same) = c.requires.running in
    let one = same_one c.args.store.now.collection y c.in-Some.collection runs c.in-Some.is in
    heard_tables c.args.store.now r c.in-Some.collection c.in-Some.is (subst (λ (z : Collection). z.exit ≡ None) one none) c.args.reaped (subst (λ (z : Collection). c.args.reaped.attempt ≡ z.job.attempt) one same) of

pub returns-clause-holds : goal.returns-clause-holds
returns-clause-holds g c told r held =
    let (y, runs, none, same) = c.requires.running in
    let one = same_one c.args.store.now.collection y c.in-Some.collection runs c.in-Some.is in
    heard_holds c.args.store.now r c.in-Some.collection c.in-Some.is (subst (λ (z : Collection). z.exit ≡ None) one none) c.args.reaped (subst (λ (z : Collection). c.args.reaped.attempt ≡ z.job.attempt) one same)
    (g.G.Ground.told c.args.outside.now) (g.G.Ground.told c.settle.new.self) c.settle.result (c.settle.ensures.does told) held
