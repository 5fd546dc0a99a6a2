use Rattle.std.proofs.Common.{◌≡◌, Some, refl, sym, ◌∙◌, ap, subst}
use Rattle.std.specs.Prelude.{Ok, Err}
use Rattle.ip_spec.specs.declared.met.Child.{Child}
use Rattle.ip_spec.specs.declared.met.Child.TheVariants as Heard
use Rattle.ip_collects.specs.declared.finishing.FinishFault.{FinishFault}
use Rattle.ip_held.specs.declared.held.Held.{Held}
use Rattle.ip_collects.specs.Ending.{Goes}
use Rattle.ip_collects.specs.Finishing.{FinishesBy, met_by_finish}
use Rattle.ip_collects.proofs.FinishCalls.{cut_finishes, end_finishes, end_goes, end_loud, end_works, goes_cut, goes_idle, goes_on, goes_runs, goes_wait, may_hear, on_bounded, on_counts, on_finishes, on_owns, on_untouched, on_works, quiet_works, some_heard}
use Rattle.ip_collects.proofs.finishing.goes.Goals as goal

pub heard-requires : goal.heard-requires
heard-requires g c = record { running = some_heard c.args.store.now.collection c.args.child c.in-Ended.reaped c.in-Ended.is c.requires.heard }

pub judged-requires-clause-tables : goal.judged-requires-clause-tables
judged-requires-clause-tables g c = (c.requires.tables.0, c.heard.ensures.tables c.requires.tables.0 c.requires.tables.1)

pub judged-requires-clause-running : goal.judged-requires-clause-running
judged-requires-clause-running g c =
    let (y, is, may) = some_heard c.args.store.now.collection c.args.child c.in-Ended.reaped c.in-Ended.is c.requires.heard in
    (record y { exit = Some c.in-Ended.reaped }, ap (λ (s : Held). s.collection) (c.heard.ensures.heard y is), refl)

pub returns-in-Ok-clause-goes : goal.returns-in-Ok-clause-goes
returns-in-Ok-clause-goes g c =
    let (y, is, may) = some_heard c.args.store.now.collection c.args.child c.in-Ended.reaped c.in-Ended.is c.requires.heard in
    let result = c.judged.result.0 in
    let left = c.judged.result.1 in
    let known = record y { exit = Some c.in-Ended.reaped } in
    let runs = ap (λ (s : Held). s.collection) (c.heard.ensures.heard y is) in
    let ends = c.judged.ensures.ends known runs in
    subst (λ (k : Child). Goes k c.args.most result (met_by_finish k result left) c.args.store.now c.judged.new.store) (sym c.in-Ended.is)
    (goes_on c.args.store.now y is c.in-Ended.reaped c.args.most may result (met_by_finish (Heard.Ended c.in-Ended.reaped) result left) c.heard.new.store c.judged.new.store (c.heard.ensures.heard y is) c.heard.ensures.tables
    (end_loud c.heard.new.store known runs c.in-Ended.reaped refl c.args.most result left c.judged.new.store ends) (end_goes c.heard.new.store known runs c.in-Ended.reaped refl c.args.most result left c.judged.new.store ends))

pub returns-in-Ok-clause-quiet : goal.returns-in-Ok-clause-quiet
returns-in-Ok-clause-quiet g c quiet =
    let (y, is, may) = some_heard c.args.store.now.collection c.args.child c.in-Ended.reaped c.in-Ended.is c.requires.heard in
    let known = record y { exit = Some c.in-Ended.reaped } in
    let runs = ap (λ (s : Held). s.collection) (c.heard.ensures.heard y is) in
    absurd (end_loud c.heard.new.store known runs c.in-Ended.reaped refl c.args.most c.judged.result.0 c.judged.result.1 c.judged.new.store (c.judged.ensures.ends known runs) quiet)

pub returns-in-Ok-clause-any_moment : goal.returns-in-Ok-clause-any_moment
returns-in-Ok-clause-any_moment g c told r held x other runs ended command asked =
    let (y, is, may) = some_heard c.args.store.now.collection c.args.child c.in-Ended.reaped c.in-Ended.is c.requires.heard in
    let result = c.judged.result.0 in
    let left = c.judged.result.1 in
    let here = c.in-Ok.ensures.holds told r held in
    let known = record x { exit = Some c.in-Ended.reaped } in
    let there = ap (λ (s : Held). s.collection) (c.heard.ensures.heard x runs) in
    subst (λ (k : Child). FinishesBy held.stands.standing.records r x command result c.args.store.now.unswept (met_by_finish k result left) c.judged.new.store (g.G.Ground.told c.args.outside.now) (g.G.Ground.told c.judged.new.outside)) (sym c.in-Ended.is)
    (on_finishes c.args.store.now x runs c.in-Ended.reaped c.args.most (may_hear c.args.store.now.collection y x c.in-Ended.reaped is runs may) r _ held _ (c.heard.ensures.does told x runs)
    result (met_by_finish (Heard.Ended c.in-Ended.reaped) result left) c.judged.new.store _ refl c.heard.new.store (c.heard.ensures.heard x runs) here command asked
    (end_finishes c.heard.new.store known there c.in-Ended.reaped refl c.args.most result left c.judged.new.store (c.judged.ensures.ends known there) r _ _ here (c.judged.ensures.any_moment told r here known there) command asked))

pub returns-in-Ok-clause-undamaged : goal.returns-in-Ok-clause-undamaged
returns-in-Ok-clause-undamaged g c told r held = c.judged.ensures.undamaged told r (c.in-Ok.ensures.holds told r held)

pub returns-in-Ok-clause-untouched : goal.returns-in-Ok-clause-untouched
returns-in-Ok-clause-untouched g c told not x runs =
    on_untouched c.args.store.now x runs c.in-Ended.reaped c.args.most _ _ _ (c.heard.ensures.does told x runs) (c.judged.ensures.untouched told not)

pub returns-in-Ok-clause-broken : goal.returns-in-Ok-clause-broken
returns-in-Ok-clause-broken g c told owns at is =
    let (r, of) = c.requires.tables in
    let (y, runs, may) = some_heard c.args.store.now.collection c.args.child c.in-Ended.reaped c.in-Ended.is c.requires.heard in
    c.judged.ensures.broken told (on_owns c.args.store.now y runs c.in-Ended.reaped c.args.most r of _ _ (c.heard.ensures.does told y runs) c.heard.new.store (c.heard.ensures.heard y runs) owns) at is

pub returns-in-Ok-clause-works_stay : goal.returns-in-Ok-clause-works_stay
returns-in-Ok-clause-works_stay g c told has r q held now =
    let (y, is, may) = some_heard c.args.store.now.collection c.args.child c.in-Ended.reaped c.in-Ended.is c.requires.heard in
    let result = c.judged.result.0 in
    let left = c.judged.result.1 in
    let here = c.in-Ok.ensures.holds told r held in
    let known = record y { exit = Some c.in-Ended.reaped } in
    let runs = ap (λ (s : Held). s.collection) (c.heard.ensures.heard y is) in
    on_works c.args.store.now y is c.in-Ended.reaped c.args.most may r _ held _ (c.heard.ensures.does told y is)
    result (met_by_finish (Heard.Ended c.in-Ended.reaped) result left) c.judged.new.store _ refl c.heard.new.store (c.heard.ensures.heard y is) here q now
    (end_works c.heard.new.store known runs c.in-Ended.reaped refl c.args.most result left c.judged.new.store (c.judged.ensures.ends known runs) r _ _ here (c.judged.ensures.any_moment told r here known runs) has q now)

pub returns-in-Ok-clause-bounded : goal.returns-in-Ok-clause-bounded
returns-in-Ok-clause-bounded g c told r held x runs collected =
    let (y, is, may) = some_heard c.args.store.now.collection c.args.child c.in-Ended.reaped c.in-Ended.is c.requires.heard in
    let here = c.in-Ok.ensures.holds told r held in
    let known = record x { exit = Some c.in-Ended.reaped } in
    let there = ap (λ (s : Held). s.collection) (c.heard.ensures.heard x runs) in
    on_bounded c.args.store.now x runs c.in-Ended.reaped c.args.most (may_hear c.args.store.now.collection y x c.in-Ended.reaped is runs may) r _ held _ (c.heard.ensures.does told x runs) c.heard.new.store here
    (c.judged.ensures.bounded told r here known there collected)

pub returns-in-Ok-clause-counts : goal.returns-in-Ok-clause-counts
returns-in-Ok-clause-counts g c = on_counts c.judged.result.0 c.judged.result.1 _ _ _ c.in-Ok.ensures.counts c.judged.ensures.counts

pub returns-in-Err-clause-goes : goal.returns-in-Err-clause-goes
returns-in-Err-clause-goes g c =
    let (y, is, may) = some_heard c.args.store.now.collection c.args.child c.in-Ended.reaped c.in-Ended.is c.requires.heard in
    subst (λ (k : Child). Goes k c.args.most (Err FinishFault.Ground) (met_by_finish k (Err FinishFault.Ground) 0) c.args.store.now c.heard.new.store) (sym c.in-Ended.is)
    (goes_cut c.args.store.now y is c.in-Ended.reaped c.args.most (c.in-Err.ensures.unheard y is) c.requires.tables.0 c.requires.tables.1 c.heard.new.store (c.heard.ensures.heard y is))

pub returns-in-Err-clause-any_moment : goal.returns-in-Err-clause-any_moment
returns-in-Err-clause-any_moment g c told r held x other runs ended command asked =
    subst (λ (k : Child). FinishesBy held.stands.standing.records r x command (Err FinishFault.Ground) c.args.store.now.unswept (met_by_finish k (Err FinishFault.Ground) 0) c.heard.new.store (g.G.Ground.told c.args.outside.now) (g.G.Ground.told c.heard.new.outside)) (sym c.in-Ended.is)
    (cut_finishes c.args.store.now x runs c.in-Ended.reaped c.args.most r _ held (c.in-Err.ensures.unheard x runs) _ (c.in-Err.ensures.cut told) c.heard.new.store command)

pub returns-in-Running-clause-goes : goal.returns-in-Running-clause-goes
returns-in-Running-clause-goes g c = goes_runs c.args.store.now c.args.most c.args.child c.in-Running.is c.requires.heard

pub returns-in-Running-clause-any_moment : goal.returns-in-Running-clause-any_moment
returns-in-Running-clause-any_moment g c told r held x other runs ended command asked = (let both : Heard.Running ≡ Heard.Ended other = sym c.in-Running.is ∙ ended in absurd (cc (both)))

pub returns-in-Running-clause-works_stay : goal.returns-in-Running-clause-works_stay
returns-in-Running-clause-works_stay g c told has r q held now = quiet_works c.args.store.now c.args.most r q _ c.args.store.now held now

pub returns-in-Fault-clause-goes : goal.returns-in-Fault-clause-goes
returns-in-Fault-clause-goes g c = goes_wait c.args.store.now c.args.most c.args.child c.in-Fault.is c.requires.heard

pub returns-in-Fault-clause-any_moment : goal.returns-in-Fault-clause-any_moment
returns-in-Fault-clause-any_moment g c told r held x other runs ended command asked = (let both : Heard.Fault ≡ Heard.Ended other = sym c.in-Fault.is ∙ ended in absurd (cc (both)))

pub returns-in-Fault-clause-works_stay : goal.returns-in-Fault-clause-works_stay
returns-in-Fault-clause-works_stay g c told has r q held now = quiet_works c.args.store.now c.args.most r q _ c.args.store.now held now

pub returns-in-NotAsked-clause-goes : goal.returns-in-NotAsked-clause-goes
returns-in-NotAsked-clause-goes g c = goes_idle c.args.store.now c.args.most c.args.child c.in-NotAsked.is c.requires.heard

pub returns-in-NotAsked-clause-any_moment : goal.returns-in-NotAsked-clause-any_moment
returns-in-NotAsked-clause-any_moment g c told r held x other runs ended command asked = (let both : Heard.NotAsked ≡ Heard.Ended other = sym c.in-NotAsked.is ∙ ended in absurd (cc (both)))

pub returns-in-NotAsked-clause-works_stay : goal.returns-in-NotAsked-clause-works_stay
returns-in-NotAsked-clause-works_stay g c told has r q held now = quiet_works c.args.store.now c.args.most r q _ c.args.store.now held now
