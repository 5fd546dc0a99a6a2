use Rattle.std.proofs.Common.{◌≡◌, [], ap, Err, sym, subst, arith}
use Rattle.ip_space.specs.SpaceView.{SpaceView, IsReadable, byte_at}
use Rattle.ip_ground.specs.Told.{NoFile}
use Rattle.ip_ground.proofs.Spans.{only_on}
use Rattle.ip_keep.specs.KeepView.{KeepView}
use Rattle.ip_keep.specs.Runs.{AreHeld}
use Rattle.ip_worker.proofs.Finding.{for_job, lie_space, lie_before, readable_before, found}
use Rattle.ip_worker.proofs.search.find.Goals as goal

pub returns-in-Ok-advance-clause-job : goal.returns-in-Ok-advance-clause-job
returns-in-Ok-advance-clause-job g c = for_job c.args.job.now c.in-Ok.space c.new-keep.result c.advance.new.self c.in-Ok.ensures.layout c.new-keep.ensures.view c.advance.ensures.keep c.advance.ensures.work

pub returns-in-Ok-advance-clause-finds : goal.returns-in-Ok-advance-clause-finds
returns-in-Ok-advance-clause-finds g c told nothing records whole =
    let a = g.G.Ground.told c.args.outside.now in
    let b = g.G.Ground.told c.open.new.outside in
    let e = g.G.Ground.told c.advance.new.outside in
    let job = c.args.job.now in
    let space = c.in-Ok.space in
    let old = c.new-keep.result in
    let first = c.open.ensures.only told in
    let is = (c.in-Ok.ensures.opens told nothing whole.rows whole.generation).ok in
    let readable = c.in-Ok.ensures.readable told nothing in
    let lie = lie_before a b job nothing records whole first space is old c.new-keep.ensures.view in
    let ready = readable_before a b job nothing records whole first space is old c.new-keep.ensures.view readable in
    let keeping = c.advance.ensures.keeping told ready records lie (c.new-keep.ensures.keeping b.held records (lie_space a b job nothing records whole first space is old c.new-keep.ensures.view)) in
    record {
      ok = found a b job nothing records whole first space is old c.new-keep.ensures.view e (c.advance.ensures.only told) readable c.advance.new.self 18446744073709551615 c.in-Ok-advance.field-0 (omega arith) c.advance.ensures.keep c.advance.ensures.work c.in-Ok-advance.ensures.looks keeping;
      whole = λ no. absurd (cc no);
    }

pub returns-in-Ok-advance-clause-readable : goal.returns-in-Ok-advance-clause-readable
returns-in-Ok-advance-clause-readable g c told nothing =
    let e = g.G.Ground.told c.advance.new.outside in
    let b = g.G.Ground.told c.open.new.outside in
    let readable = c.in-Ok.ensures.readable told nothing in
    let same : c.new-keep.result.space ≡ c.in-Ok.space = ap (λ (k : KeepView). k.space) c.new-keep.ensures.view in
    subst (IsReadable e) (sym c.advance.ensures.work.space) (c.advance.ensures.readable told (subst (IsReadable b) (sym same) readable))

pub returns-in-Ok-advance-clause-held : goal.returns-in-Ok-advance-clause-held
returns-in-Ok-advance-clause-held g c told nothing =
    let b = g.G.Ground.told c.open.new.outside in
    let e = g.G.Ground.told c.advance.new.outside in
    let old = c.new-keep.result in
    let same : old.space ≡ c.in-Ok.space = ap (λ (k : KeepView). k.space) c.new-keep.ensures.view in
    let none : old.kept ≡ [] = ap (λ (k : KeepView). k.kept) c.new-keep.ensures.view in
    let readable = subst (IsReadable b) (sym same) (c.in-Ok.ensures.readable told nothing) in
    subst (λ (s : SpaceView). AreHeld (byte_at e s) c.advance.new.self.kept) (sym c.advance.ensures.work.space)
    (c.advance.ensures.held told readable (subst (AreHeld (byte_at b old.space)) (sym none) tt))

pub returns-in-Err-Damaged-clause-finds : goal.returns-in-Err-Damaged-clause-finds
returns-in-Err-Damaged-clause-finds g c told nothing records whole =
    let a = g.G.Ground.told c.args.outside.now in
    let b = g.G.Ground.told c.open.new.outside in
    let job = c.args.job.now in
    let space = c.in-Ok.space in
    let old = c.new-keep.result in
    let first = c.open.ensures.only told in
    let is = (c.in-Ok.ensures.opens told nothing whole.rows whole.generation).ok in
    let readable = c.in-Ok.ensures.readable told nothing in
    let lie = lie_before a b job nothing records whole first space is old c.new-keep.ensures.view in
    let ready = readable_before a b job nothing records whole first space is old c.new-keep.ensures.view readable in
    let start = c.new-keep.ensures.keeping b.held records (lie_space a b job nothing records whole first space is old c.new-keep.ensures.view) in
    record {
      ok = tt;
      whole = λ is. c.in-Err-Damaged.ensures.undamaged told ready records lie start c.in-Err-Damaged.field-0-0 (ap Err c.in-Err-Damaged.field-0-is);
    }

pub returns-in-Ok-advance-clause-only : goal.returns-in-Ok-advance-clause-only
returns-in-Ok-advance-clause-only g c told = only_on _ _ _ NoFile (c.open.ensures.only told) (c.advance.ensures.only told)

pub returns-in-Err-Ground-clause-only : goal.returns-in-Err-Ground-clause-only
returns-in-Err-Ground-clause-only g c told = only_on _ _ _ NoFile (c.open.ensures.only told) (c.advance.ensures.only told)

pub returns-in-Err-Damaged-clause-only : goal.returns-in-Err-Damaged-clause-only
returns-in-Err-Damaged-clause-only g c told = only_on _ _ _ NoFile (c.open.ensures.only told) (c.advance.ensures.only told)

pub returns-clause-only : goal.returns-clause-only
returns-clause-only g c told = only_on _ _ _ NoFile (c.open.ensures.only told) (c.advance.ensures.only told)
