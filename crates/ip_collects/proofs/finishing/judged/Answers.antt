use Rattle.std.proofs.Common.{◌≡◌, [], None, refl, sym, ◌∙◌, ap, subst}
use Rattle.std.specs.Prelude.{Ok, Err, ◌-◌, ◌^◌}
use Rattle.ip_ground.specs.Told.{NoFile}
use Rattle.ip_ground.proofs.Spans.{only_on}
use Rattle.ip_image.specs.Slot.{IsSlot}
use Rattle.ip_collects.specs.declared.checking.Verdict.{Verdict}
use Rattle.ip_collects.specs.declared.finishing.FinishFault.{FinishFault}
use Rattle.ip_collects.specs.declared.finishing.Looked.{Looked}
use Rattle.ip_held.specs.declared.held.Held.{Held}
use Rattle.ip_collects.specs.Judging.{EndsCheck, FitsExit, IsOpen, SlicesBy, TellsVerdict, with_check}
use Rattle.ip_collects.proofs.FinishEnds.{as_fault_of, counts_cut, counts_refused, counts_swept, ends_collected, ends_cut, ends_open, ends_refused, ends_rejected, given_up, rootless_blames, rootless_damaged, same_exit, some_exit, sweeps_on, swept_on, undamaged_as}
use Rattle.ip_collects.proofs.FinishMoments.{accepts_as, accepts_checked, asked_of, collected_by, cut_by, kept_on, refused_by, swept_out}
use Rattle.ip_collects.proofs.finishing.judged.Goals as goal

pub judge-requires-clause-running : goal.judge-requires-clause-running
judge-requires-clause-running g c = let (y, is, kept) = c.requires.running in (y, is, some_exit y.exit c.args.reaped kept)

pub sweep-left-requires : goal.sweep-left-requires
sweep-left-requires g c = record { slot = subst (λ (s : Held). IsSlot s.slot) (sym c.give_up.ensures) (c.judge.ensures.tables c.requires.tables.0 c.requires.tables.1).slot }

pub accept-requires-clause-tables : goal.accept-requires-clause-tables
accept-requires-clause-tables g c = (c.requires.tables.0, c.judge.ensures.tables c.requires.tables.0 c.requires.tables.1)

pub accept-requires-clause-through : goal.accept-requires-clause-through
accept-requires-clause-through g c = subst (λ (v : Verdict). EndsCheck (Ok v) c.judge.new.store.collection) c.in-Ok-Valid.field-0-is c.in-Ok-Valid.ensures.ends

pub sweep-left-requires-in-Ok : goal.sweep-left-requires-in-Ok
sweep-left-requires-in-Ok g c =
    let (y, is, kept) = c.requires.running in
    let k = c.judge.ensures.check y is in
    record { slot = (c.in-Ok.ensures.tables c.requires.tables.0 (record y { check = k.0 }) (c.judge.ensures.tables c.requires.tables.0 c.requires.tables.1) (ap (λ (s : Held). s.collection) k.1)).0.slot }

pub returns-in-Ok-Open-clause-ends : goal.returns-in-Ok-Open-clause-ends
returns-in-Ok-Open-clause-ends g c x runs =
    let k = c.judge.ensures.check x runs in
    ends_open c.args.store.now x c.args.reaped c.args.most k.0 c.judge.new.store k.1 k.2 c.judge.ensures.tables c.in-Ok-Open.left (subst (λ (v : Verdict). FitsExit c.args.reaped.exit (Ok v)) c.in-Ok-Open.field-0-is c.in-Ok-Open.ensures.fits)
    (subst (λ (v : Verdict). SlicesBy c.args.most x (Ok v) c.judge.new.store.collection) c.in-Ok-Open.field-0-is (c.in-Ok-Open.ensures.sliced x runs))
    (subst (λ (v : Verdict). c.args.most ≡ 2 ^ 64 - 1 → ¬ IsOpen (Ok v)) c.in-Ok-Open.field-0-is c.in-Ok-Open.ensures.whole)

pub returns-in-Ok-Open-clause-any_moment : goal.returns-in-Ok-Open-clause-any_moment
returns-in-Ok-Open-clause-any_moment g c told r held x runs =
    let (y, is, kept) = c.requires.running in
    kept_on c.args.store.now r _ held x runs c.args.reaped (same_exit c.args.store.now.collection y x c.args.reaped is kept runs) _ (c.judge.ensures.only told) _ (Ok (Looked.Checking c.in-Ok-Open.left))
    (λ has. c.judge.ensures.holds told r held) (λ no. no) (λ no. no) tt (λ has. refl)

pub returns-in-Ok-Rejected-clause-ends : goal.returns-in-Ok-Rejected-clause-ends
returns-in-Ok-Rejected-clause-ends g c x runs =
    let k = c.judge.ensures.check x runs in
    let gone = given_up c.args.store.now c.judge.new.store c.give_up.new.store x k.0 k.1 c.give_up.ensures in
    ends_rejected c.args.store.now x c.args.reaped c.args.most k.0 c.judge.new.store k.1 k.2 c.judge.ensures.tables c.in-Ok-Rejected.rejection c.sweep-left.result c.sweep-left.new.store
    (swept_on c.give_up.new.store (record (with_check c.args.store.now x k.0) { collection = None }) c.sweep-left.new.store c.sweep-left.result gone c.sweep-left.ensures.unswept) (subst (λ (v : Verdict). FitsExit c.args.reaped.exit (Ok v)) c.in-Ok-Rejected.field-0-is c.in-Ok-Rejected.ensures.fits)

pub returns-in-Ok-Rejected-clause-any_moment : goal.returns-in-Ok-Rejected-clause-any_moment
returns-in-Ok-Rejected-clause-any_moment g c told r held x runs =
    let (y, is, kept) = c.requires.running in
    let k = c.judge.ensures.check x runs in
    let gone = given_up c.args.store.now c.judge.new.store c.give_up.new.store x k.0 k.1 c.give_up.ensures in
    swept_out c.args.store.now r _ held x runs c.args.reaped (same_exit c.args.store.now.collection y x c.args.reaped is kept runs) _ (c.judge.ensures.only told) k.0 c.in-Ok-Rejected.rejection c.sweep-left.result _
    (sweeps_on c.give_up.new.store (record (with_check c.args.store.now x k.0) { collection = None }) c.sweep-left.result _ _ gone (c.sweep-left.ensures.does told)) c.sweep-left.new.store
    (swept_on c.give_up.new.store (record (with_check c.args.store.now x k.0) { collection = None }) c.sweep-left.new.store c.sweep-left.result gone c.sweep-left.ensures.unswept) (subst (λ (v : Verdict). TellsVerdict held.stands.standing.records x (g.G.Ground.told c.args.outside.now) (Ok v)) c.in-Ok-Rejected.field-0-is (c.in-Ok-Rejected.ensures.says told r held x runs))

pub returns-in-Ok-Rejected-clause-counts : goal.returns-in-Ok-Rejected-clause-counts
returns-in-Ok-Rejected-clause-counts g c = counts_swept c.sweep-left.result _ _ _ c.in-Ok-Rejected.ensures.counts c.sweep-left.ensures.counts

pub returns-in-Ok-clause-ends : goal.returns-in-Ok-clause-ends
returns-in-Ok-clause-ends g c x runs =
    let k = c.judge.ensures.check x runs in
    ends_collected c.args.store.now x c.args.reaped c.args.most k.0 c.judge.new.store k.1 k.2 c.judge.ensures.tables (subst (λ (v : Verdict). FitsExit c.args.reaped.exit (Ok v)) c.in-Ok-Valid.field-0-is c.in-Ok-Valid.ensures.fits) c.accept.new.store c.requires.tables.0 c.requires.tables.1
    (λ p there. c.in-Ok.ensures.tables p (record x { check = k.0 }) there (ap (λ (s : Held). s.collection) k.1)) c.sweep-left-in-Ok.result c.sweep-left-in-Ok.new.store c.sweep-left-in-Ok.ensures.unswept

pub returns-in-Ok-clause-any_moment : goal.returns-in-Ok-clause-any_moment
returns-in-Ok-clause-any_moment g c told r held x runs =
    let (y, is, kept) = c.requires.running in
    let k = c.judge.ensures.check x runs in
    let here = c.judge.ensures.holds told r held in
    let exit = same_exit c.args.store.now.collection y x c.args.reaped is kept runs in
    let says = subst (λ (v : Verdict). TellsVerdict held.stands.standing.records x (g.G.Ground.told c.args.outside.now) (Ok v)) c.in-Ok-Valid.field-0-is (c.in-Ok-Valid.ensures.says told r held x runs) in
    let it = ap (λ (s : Held). s.collection) k.1 in
    collected_by c.args.store.now r _ held x runs c.args.reaped exit _ (c.judge.ensures.only told) c.judge.new.store here k.0 k.1 says c.accept.new.store _ (c.in-Ok.ensures.tables r (record x { check = k.0 }) here.tables it)
    (accepts_as here.stands.standing.records r x k.0 (Ok tt) c.accept.new.store _ _ (c.in-Ok.ensures.does told r here (record x { check = k.0 }) it (asked_of c.args.store.now r _ held x runs c.args.reaped exit _ (c.judge.ensures.only told) c.judge.new.store here k.0 k.1 says)))
    c.sweep-left-in-Ok.result _ (c.sweep-left-in-Ok.ensures.does told) c.sweep-left-in-Ok.new.store c.sweep-left-in-Ok.ensures.unswept

pub returns-in-Ok-clause-counts : goal.returns-in-Ok-clause-counts
returns-in-Ok-clause-counts g c = counts_swept c.sweep-left-in-Ok.result _ _ _ (c.in-Ok.ensures.counts ∙ c.in-Ok-Valid.ensures.counts) c.sweep-left-in-Ok.ensures.counts

pub returns-in-Err-accept-clause-ends : goal.returns-in-Err-accept-clause-ends
returns-in-Err-accept-clause-ends g c x runs =
    let k = c.judge.ensures.check x runs in
    ends_refused c.args.store.now x c.args.reaped c.args.most k.0 c.judge.new.store k.1 k.2 c.judge.ensures.tables (subst (λ (v : Verdict). FitsExit c.args.reaped.exit (Ok v)) c.in-Ok-Valid.field-0-is c.in-Ok-Valid.ensures.fits) c.accept.new.store c.requires.tables.0 c.requires.tables.1 c.in-Err-accept.fault c.in-Err-accept.ensures.faults (subst (λ (v : Verdict). EndsCheck (Ok v) c.judge.new.store.collection) c.in-Ok-Valid.field-0-is c.in-Ok-Valid.ensures.ends)
    (λ e. c.in-Err-accept.ensures.sequence (ap (λ (f : FinishFault). Err f) e)) (λ e. c.in-Err-accept.ensures.room (ap (λ (f : FinishFault). Err f) e)) (λ p there. accepts_checked [] p x k.0 c.in-Err-accept.fault c.judge.new.store c.accept.new.store (c.in-Err-accept.ensures.tables p (record x { check = k.0 }) there (ap (λ (s : Held). s.collection) k.1)))

pub returns-in-Err-accept-clause-any_moment : goal.returns-in-Err-accept-clause-any_moment
returns-in-Err-accept-clause-any_moment g c told r held x runs =
    let (y, is, kept) = c.requires.running in
    let k = c.judge.ensures.check x runs in
    let here = c.judge.ensures.holds told r held in
    let exit = same_exit c.args.store.now.collection y x c.args.reaped is kept runs in
    let says = subst (λ (v : Verdict). TellsVerdict held.stands.standing.records x (g.G.Ground.told c.args.outside.now) (Ok v)) c.in-Ok-Valid.field-0-is (c.in-Ok-Valid.ensures.says told r held x runs) in
    let it = ap (λ (s : Held). s.collection) k.1 in
    refused_by c.args.store.now r _ held x runs c.args.reaped exit _ (c.judge.ensures.only told) c.judge.new.store here k.0 k.1 says c.accept.new.store _ c.in-Err-accept.fault c.in-Err-accept.ensures.faults
    (c.in-Err-accept.ensures.undamaged told r here)
    (accepts_checked [] r x k.0 c.in-Err-accept.fault c.judge.new.store c.accept.new.store (c.in-Err-accept.ensures.tables r (record x { check = k.0 }) here.tables it)) (λ t. ap g.G.Ground.told (c.in-Err-accept.ensures.unchanged t))
    (accepts_as here.stands.standing.records r x k.0 (Err c.in-Err-accept.fault) c.accept.new.store _ _ (c.in-Err-accept.ensures.does told r here (record x { check = k.0 }) it (asked_of c.args.store.now r _ held x runs c.args.reaped exit _ (c.judge.ensures.only told) c.judge.new.store here k.0 k.1 says)))

pub returns-in-Err-accept-clause-undamaged : goal.returns-in-Err-accept-clause-undamaged
returns-in-Err-accept-clause-undamaged g c told r held = undamaged_as (Unit {0}) Looked c.in-Err-accept.fault (c.in-Err-accept.ensures.undamaged told r (c.judge.ensures.holds told r held))

pub returns-in-Err-accept-clause-untouched : goal.returns-in-Err-accept-clause-untouched
returns-in-Err-accept-clause-untouched g c told not =
    only_on _ _ _ NoFile (c.judge.ensures.only told) (c.in-Err-accept.ensures.untouched told (λ safe. not (undamaged_as (Unit {0}) Looked c.in-Err-accept.fault safe)))

pub returns-in-Err-accept-clause-blames : goal.returns-in-Err-accept-clause-blames
returns-in-Err-accept-clause-blames g c at is = rootless_blames c.accept.new.store.collection at (c.in-Err-accept.ensures.rootless at (as_fault_of (Unit {0}) Looked c.in-Err-accept.fault at is))

pub returns-in-Err-accept-clause-broken : goal.returns-in-Err-accept-clause-broken
returns-in-Err-accept-clause-broken g c told owns at is = rootless_damaged (g.G.Ground.told c.accept.new.outside) c.accept.new.store.collection at (c.in-Err-accept.ensures.rootless at (as_fault_of (Unit {0}) Looked c.in-Err-accept.fault at is))

pub returns-in-Err-accept-clause-counts : goal.returns-in-Err-accept-clause-counts
returns-in-Err-accept-clause-counts g c = counts_refused c.in-Err-accept.fault _ _ _ c.in-Err-accept.ensures.faults c.in-Ok-Valid.ensures.counts c.in-Err-accept.ensures.counts

pub returns-in-Err-clause-ends : goal.returns-in-Err-clause-ends
returns-in-Err-clause-ends g c x runs =
    let k = c.judge.ensures.check x runs in
    ends_cut c.args.store.now x c.args.reaped c.args.most k.0 c.judge.new.store k.1 k.2 c.judge.ensures.tables c.in-Err.fault c.in-Err.ensures.fits (λ e. c.in-Err.ensures.through (ap (λ (f : FinishFault). Err f) e)) (c.in-Err.ensures.unsaid refl)

pub returns-in-Err-clause-any_moment : goal.returns-in-Err-clause-any_moment
returns-in-Err-clause-any_moment g c told r held x runs =
    let (y, is, kept) = c.requires.running in
    cut_by c.args.store.now r _ held x runs c.args.reaped (same_exit c.args.store.now.collection y x c.args.reaped is kept runs) _ (c.judge.ensures.only told) _ (c.judge.ensures.holds told r held) c.in-Err.fault c.in-Err.ensures.fits.1

pub returns-in-Err-clause-undamaged : goal.returns-in-Err-clause-undamaged
returns-in-Err-clause-undamaged g c told r held = undamaged_as Verdict Looked c.in-Err.fault (c.in-Err.ensures.undamaged told r held)

pub returns-in-Err-clause-untouched : goal.returns-in-Err-clause-untouched
returns-in-Err-clause-untouched g c told not = c.judge.ensures.only told

pub returns-in-Err-clause-blames : goal.returns-in-Err-clause-blames
returns-in-Err-clause-blames g c at is = c.in-Err.ensures.blames at (as_fault_of Verdict Looked c.in-Err.fault at is)

pub returns-in-Err-clause-broken : goal.returns-in-Err-clause-broken
returns-in-Err-clause-broken g c told owns at is = c.in-Err.ensures.broken told owns at (as_fault_of Verdict Looked c.in-Err.fault at is)

pub returns-in-Err-clause-counts : goal.returns-in-Err-clause-counts
returns-in-Err-clause-counts g c = counts_cut c.in-Err.fault _ _ c.in-Err.ensures.fits.1 c.in-Err.ensures.counts

pub returns-in-Ok-clause-bounded : goal.returns-in-Ok-clause-bounded
returns-in-Ok-clause-bounded g c told r held x runs collected = c.judge.ensures.bounded told r held x runs (subst (λ (v : Verdict). c.judge.result ≡ Ok v) c.in-Ok-Valid.field-0-is c.in-Ok-Valid.is)

pub returns-in-Err-accept-clause-bounded : goal.returns-in-Err-accept-clause-bounded
returns-in-Err-accept-clause-bounded g c told r held x runs accepted = c.judge.ensures.bounded told r held x runs (subst (λ (v : Verdict). c.judge.result ≡ Ok v) c.in-Ok-Valid.field-0-is c.in-Ok-Valid.is)
