use Rattle.std.proofs.Common.{refl, []}
use Rattle.ip_ground.specs.declared.names.FileName.TheVariants.{Prefix, Mapping}
use Rattle.ip_ground.specs.Told.{NoFile}
use Rattle.ip_ground.proofs.Spans.{only_on}
use Rattle.ip_keep.specs.KeepView.{KeepView}
use Rattle.ip_worker.proofs.Serving.{served_back, served_on}
use Rattle.ip_worker.proofs.Stages.{looked, free_b, removed_c, free_c, gone_c, removed_d, free_d, gone_d, only_e, searched_works, cleared_works, ready_c, held_c, pair_works, done_works, all_works}
use Rattle.ip_worker.proofs.worker.collect.Goals as goal

-- ---- the search failed

pub returns-in-Err-clause-works : goal.returns-in-Err-clause-works
returns-in-Err-clause-works g c told records whole nothing other =
    searched_works {A = KeepView} records c.args.job.now _ _ nothing (c.find.ensures.only told) c.in-Err.fault (c.in-Err.ensures.finds told nothing records whole).whole

pub returns-in-Err-clause-served : goal.returns-in-Err-clause-served
returns-in-Err-clause-served g c told is = record { undone = λ done. absurd (cc done); only = c.find.ensures.only told }

pub returns-in-Err-clause-spared : goal.returns-in-Err-clause-spared
returns-in-Err-clause-spared g c told nothing is = c.find.ensures.only told

pub returns-in-Err-clause-only : goal.returns-in-Err-clause-only
returns-in-Err-clause-only g c told free = (looked c.args.job.now.attempt _ _ free (c.find.ensures.only told)).only

-- ---- the attempt is live, or the control file could not be read

pub returns-in-Err-refuse_served-clause-works : goal.returns-in-Err-refuse_served-clause-works
returns-in-Err-refuse_served-clause-works g c told records whole nothing other =
    let a = g.G.Ground.told c.args.outside.now in
    let m = g.G.Ground.told c.find.new.outside in
    let b = g.G.Ground.told c.refuse_served.new.outside in
    let job = c.args.job.now in
    let first = c.find.ensures.only told in
    searched_works {A = Unit {0}} records job a b nothing (only_on a m b NoFile first (c.refuse_served.ensures.only told)) c.in-Err-refuse_served.fault
    (λ damaged. other (served_back a m first job.attempt (c.in-Err-refuse_served.ensures.damaged told damaged)))

pub returns-in-Err-refuse_served-clause-served : goal.returns-in-Err-refuse_served-clause-served
returns-in-Err-refuse_served-clause-served g c told is = record { undone = λ done. absurd (cc done); only = only_on _ _ _ NoFile (c.find.ensures.only told) (c.refuse_served.ensures.only told) }

pub returns-in-Err-refuse_served-clause-spared : goal.returns-in-Err-refuse_served-clause-spared
returns-in-Err-refuse_served-clause-spared g c told nothing is = only_on _ _ _ NoFile (c.find.ensures.only told) (c.refuse_served.ensures.only told)

pub returns-in-Err-refuse_served-clause-only : goal.returns-in-Err-refuse_served-clause-only
returns-in-Err-refuse_served-clause-only g c told free = (looked c.args.job.now.attempt _ _ free (only_on _ _ _ NoFile (c.find.ensures.only told) (c.refuse_served.ensures.only told))).only

-- ---- the removals failed

pub returns-in-Err-clear-clause-works : goal.returns-in-Err-clear-clause-works
returns-in-Err-clear-clause-works g c told records whole nothing other =
    let a = g.G.Ground.told c.args.outside.now in
    let m = g.G.Ground.told c.find.new.outside in
    let b = g.G.Ground.told c.refuse_served.new.outside in
    let d = g.G.Ground.told c.clear.new.outside in
    let job = c.args.job.now in
    let looks = only_on a m b NoFile (c.find.ensures.only told) (c.refuse_served.ensures.only told) in
    cleared_works records job _ a b d nothing looks (c.in-Err-clear.ensures.clears told (free_b job.attempt a b d (nothing job.attempt) looks))

pub returns-in-Err-clear-clause-served : goal.returns-in-Err-clear-clause-served
returns-in-Err-clear-clause-served g c told is = absurd (c.in-Ok-refuse_served.ensures.served told (served_on _ _ (c.find.ensures.only told) c.args.job.now.attempt is) refl)

pub returns-in-Err-clear-clause-spared : goal.returns-in-Err-clear-clause-spared
returns-in-Err-clear-clause-spared g c told nothing is = absurd (cc is)

pub returns-in-Err-clear-clause-only : goal.returns-in-Err-clear-clause-only
returns-in-Err-clear-clause-only g c told free =
    let attempt = c.args.job.now.attempt in
    let looks = only_on _ _ _ NoFile (c.find.ensures.only told) (c.refuse_served.ensures.only told) in
    (removed_c attempt _ _ _ free looks _ (c.in-Err-clear.ensures.clears told (free_b attempt _ _ (g.G.Ground.told c.clear.new.outside) free looks))).only

-- ---- the pair could not be written

pub returns-in-Err-write_pair-clause-works : goal.returns-in-Err-write_pair-clause-works
returns-in-Err-write_pair-clause-works g c told records whole nothing other =
    let a = g.G.Ground.told c.args.outside.now in
    let m = g.G.Ground.told c.find.new.outside in
    let b = g.G.Ground.told c.refuse_served.new.outside in
    let d = g.G.Ground.told c.clear.new.outside in
    let e = g.G.Ground.told c.write_pair.new.outside in
    let job = c.args.job.now in
    let below = c.requires.live in
    let free = nothing job.attempt in
    let first = c.find.ensures.only told in
    let then = c.refuse_served.ensures.only told in
    let looks = only_on a m b NoFile first then in
    let clears = c.in-Ok-clear.ensures.clears told (free_b job.attempt a b d free looks) in
    let k = c.in-Ok.keep in
    let is = c.in-Ok.ensures.job in
    let readable = c.in-Ok.ensures.readable told nothing in
    let finds = c.in-Ok.ensures.finds told nothing records whole in
    let ready = ready_c records job below a m b d nothing first then clears k is readable in
    let gone = gone_c job.attempt a b d free looks clears in
    let writes = c.in-Err-write_pair.ensures.writes told ready (gone (Prefix job.attempt) refl) (gone (Mapping job.attempt) refl) in
    pair_works records job below a m b d nothing first then clears k is readable finds e (c.write_pair.ensures.only told ready.free) c.in-Err-write_pair.fault writes

pub returns-in-Err-write_pair-clause-served : goal.returns-in-Err-write_pair-clause-served
returns-in-Err-write_pair-clause-served g c told is = absurd (c.in-Ok-refuse_served.ensures.served told (served_on _ _ (c.find.ensures.only told) c.args.job.now.attempt is) refl)

-- all that it copies is there
pub returns-in-Err-write_pair-clause-spared : goal.returns-in-Err-write_pair-clause-spared
returns-in-Err-write_pair-clause-spared g c told nothing is =
    let a = g.G.Ground.told c.args.outside.now in
    let m = g.G.Ground.told c.find.new.outside in
    let b = g.G.Ground.told c.refuse_served.new.outside in
    let d = g.G.Ground.told c.clear.new.outside in
    let job = c.args.job.now in
    let below = c.requires.live in
    let free = nothing job.attempt in
    let first = c.find.ensures.only told in
    let then = c.refuse_served.ensures.only told in
    let looks = only_on a m b NoFile first then in
    let clears = c.in-Ok-clear.ensures.clears told (free_b job.attempt a b d free looks) in
    let k = c.in-Ok.keep in
    let is_for = c.in-Ok.ensures.job in
    let readable = c.in-Ok.ensures.readable told nothing in
    let ready = ready_c [] job below a m b d nothing first then clears k is_for readable in
    let gone = gone_c job.attempt a b d free looks clears in
    let writes = c.in-Err-write_pair.ensures.writes told ready (gone (Prefix job.attempt) refl) (gone (Mapping job.attempt) refl) in
    absurd (writes.whole is (held_c [] job below a m b d nothing first then clears k is_for readable (c.in-Ok.ensures.held told nothing)))

pub returns-in-Err-write_pair-clause-only : goal.returns-in-Err-write_pair-clause-only
returns-in-Err-write_pair-clause-only g c told free =
    let attempt = c.args.job.now.attempt in
    let looks = only_on _ _ _ NoFile (c.find.ensures.only told) (c.refuse_served.ensures.only told) in
    let clears = c.in-Ok-clear.ensures.clears told (free_b attempt _ _ (g.G.Ground.told c.clear.new.outside) free looks) in
    (removed_d attempt _ _ _ free looks clears _ (c.write_pair.ensures.only told (free_c attempt _ _ _ free looks clears))).only

-- ---- all was done

pub returns-in-Ok-write_done-clause-works : goal.returns-in-Ok-write_done-clause-works
returns-in-Ok-write_done-clause-works g c told records whole nothing other =
    let a = g.G.Ground.told c.args.outside.now in
    let m = g.G.Ground.told c.find.new.outside in
    let b = g.G.Ground.told c.refuse_served.new.outside in
    let d = g.G.Ground.told c.clear.new.outside in
    let e = g.G.Ground.told c.write_pair.new.outside in
    let f = g.G.Ground.told c.write_done.new.outside in
    let job = c.args.job.now in
    let below = c.requires.live in
    let free = nothing job.attempt in
    let first = c.find.ensures.only told in
    let then = c.refuse_served.ensures.only told in
    let looks = only_on a m b NoFile first then in
    let clears = c.in-Ok-clear.ensures.clears told (free_b job.attempt a b d free looks) in
    let k = c.in-Ok.keep in
    let is = c.in-Ok.ensures.job in
    let readable = c.in-Ok.ensures.readable told nothing in
    let finds = c.in-Ok.ensures.finds told nothing records whole in
    let ready = ready_c records job below a m b d nothing first then clears k is readable in
    let gone = gone_c job.attempt a b d free looks clears in
    let writes = c.in-Ok-write_pair.ensures.writes told ready (gone (Prefix job.attempt) refl) (gone (Mapping job.attempt) refl) in
    let next = c.write_pair.ensures.only told ready.free in
    let ends = c.in-Ok-write_done.ensures.ends told (free_d job.attempt a b d free looks clears e next) (gone_d job.attempt a b d free looks clears e next) in
    all_works records job below a m b d nothing first then clears k is readable finds e next c.in-Ok-write_pair.counts writes c.in-Ok-write_pair.ensures.counted f ends

pub returns-in-Ok-write_done-clause-served : goal.returns-in-Ok-write_done-clause-served
returns-in-Ok-write_done-clause-served g c told is = absurd (c.in-Ok-refuse_served.ensures.served told (served_on _ _ (c.find.ensures.only told) c.args.job.now.attempt is) refl)

pub returns-in-Ok-write_done-clause-spared : goal.returns-in-Ok-write_done-clause-spared
returns-in-Ok-write_done-clause-spared g c told nothing is = absurd (cc is)

pub returns-in-Ok-write_done-clause-only : goal.returns-in-Ok-write_done-clause-only
returns-in-Ok-write_done-clause-only g c told free =
    let attempt = c.args.job.now.attempt in
    let looks = only_on _ _ _ NoFile (c.find.ensures.only told) (c.refuse_served.ensures.only told) in
    let clears = c.in-Ok-clear.ensures.clears told (free_b attempt _ _ (g.G.Ground.told c.clear.new.outside) free looks) in
    let next = c.write_pair.ensures.only told (free_c attempt _ _ _ free looks clears) in
    let ends = c.in-Ok-write_done.ensures.ends told (free_d attempt _ _ _ free looks clears _ next) (gone_d attempt _ _ _ free looks clears _ next) in
    only_e attempt _ _ _ free looks clears _ next _ ends.only

-- ---- the done file could not be written

pub returns-clause-works : goal.returns-clause-works
returns-clause-works g c told records whole nothing other =
    let a = g.G.Ground.told c.args.outside.now in
    let m = g.G.Ground.told c.find.new.outside in
    let b = g.G.Ground.told c.refuse_served.new.outside in
    let d = g.G.Ground.told c.clear.new.outside in
    let e = g.G.Ground.told c.write_pair.new.outside in
    let f = g.G.Ground.told c.write_done.new.outside in
    let job = c.args.job.now in
    let below = c.requires.live in
    let free = nothing job.attempt in
    let first = c.find.ensures.only told in
    let then = c.refuse_served.ensures.only told in
    let looks = only_on a m b NoFile first then in
    let clears = c.in-Ok-clear.ensures.clears told (free_b job.attempt a b d free looks) in
    let k = c.in-Ok.keep in
    let is = c.in-Ok.ensures.job in
    let readable = c.in-Ok.ensures.readable told nothing in
    let finds = c.in-Ok.ensures.finds told nothing records whole in
    let ready = ready_c records job below a m b d nothing first then clears k is readable in
    let gone = gone_c job.attempt a b d free looks clears in
    let writes = c.in-Ok-write_pair.ensures.writes told ready (gone (Prefix job.attempt) refl) (gone (Mapping job.attempt) refl) in
    let next = c.write_pair.ensures.only told ready.free in
    let ends = c.write_done.ensures.ends told (free_d job.attempt a b d free looks clears e next) (gone_d job.attempt a b d free looks clears e next) in
    done_works records job below a m b d nothing first then clears k is readable finds e next c.in-Ok-write_pair.counts writes f _ ends

pub returns-clause-served : goal.returns-clause-served
returns-clause-served g c told is = absurd (c.in-Ok-refuse_served.ensures.served told (served_on _ _ (c.find.ensures.only told) c.args.job.now.attempt is) refl)

pub returns-clause-spared : goal.returns-clause-spared
returns-clause-spared g c told nothing is = absurd (cc is)

pub returns-clause-only : goal.returns-clause-only
returns-clause-only g c told free =
    let attempt = c.args.job.now.attempt in
    let looks = only_on _ _ _ NoFile (c.find.ensures.only told) (c.refuse_served.ensures.only told) in
    let clears = c.in-Ok-clear.ensures.clears told (free_b attempt _ _ (g.G.Ground.told c.clear.new.outside) free looks) in
    let next = c.write_pair.ensures.only told (free_c attempt _ _ _ free looks clears) in
    let ends = c.write_done.ensures.ends told (free_d attempt _ _ _ free looks clears _ next) (gone_d attempt _ _ _ free looks clears _ next) in
    only_e attempt _ _ _ free looks clears _ next _ ends.only
