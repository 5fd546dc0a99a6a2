use Rattle.std.proofs.Common.{ℕ, ◌∙◌, ap, Ok, Err, arith}
use Rattle.ip_ground.specs.Told.{NoFile}
use Rattle.ip_ground.proofs.Spans.{only_on}
use Rattle.ip_check.proofs.Stages.{all_looked, blamed_as, goes_on, keeps_on, undamaged_as, undone}
use Rattle.ip_keep.specs.Keeping.{looked_in}
use Rattle.ip_check.proofs.Stood.{breaks_as, breaks_on, stood_on}
use Rattle.ip_check.proofs.check.Check.compare_prefix.Goals as goal

pub returns-in-Err-clause-keeps : goal.returns-in-Err-clause-keeps
returns-in-Err-clause-keeps g c told records over keeping =
    let kept = c.loop-place.invariant in
    let r = keeps_on _ _ c.args.most _ _ _ (Ok tt) (Err c.in-Err.fault) (kept.only told) kept.goes (kept.keeps told) (c.in-Err.ensures.keeps told) records over keeping in
    (r.0, undamaged_as {A = ℕ} {B = Unit {0}} c.in-Err.fault r.1)

pub returns-in-Err-clause-only : goal.returns-in-Err-clause-only
returns-in-Err-clause-only g c told = only_on _ _ _ NoFile (c.loop-place.invariant.only told) (c.compare_next.ensures.only told)

pub loop-place-preserved : goal.loop-place-preserved
loop-place-preserved g c =
    let kept = c.loop-place.invariant in
    let some = c.in-Ok.ensures.some in
    record {
      few = omega (arith, kept.few);
      goes = goes_on c.args.most c.loop-place.left c.args.most _ _ _ kept.goes c.compare_next.ensures.goes (omega (arith, kept.exact));
      exact = omega (arith, kept.exact, some.0, some.1, some.2);
      found = λ e. absurd (c.compare_next.ensures.stage e);
      through = λ verdict e.
          let there = kept.through verdict e in
          let comparing = c.in-Some.ensures.some.stage in
          absurd (cc (there, comparing));
      keeps = λ told records over keeping.
          let r = keeps_on _ _ c.args.most _ _ _ (Ok tt) (Ok c.in-Ok.count) (kept.only told) kept.goes (kept.keeps told) (c.in-Ok.ensures.keeps told) records over keeping in
          (r.0, λ at e. undone tt at e);
      keep = c.compare_next.ensures.keep ∙ kept.keep;
      stood = λ told.
          let low = kept.goes.low in
          let were = ap looked_in kept.keep in
          let next = c.compare_next.ensures.goes.low in
          let are = ap looked_in c.compare_next.ensures.keep in
          stood_on _ _ c.args.self.now c.loop-place.self c.compare_next.new.self (kept.only told) kept.goes.same c.compare_next.ensures.keep (omega (arith, low, were)) (omega (arith, next, are)) (kept.stood told) (c.compare_next.ensures.stood told);
      only = λ told. only_on _ _ _ NoFile (kept.only told) (c.compare_next.ensures.only told);
      counts = c.in-Ok.ensures.counts ∙ kept.counts;
    }

pub returns-clause-keeps : goal.returns-clause-keeps
returns-clause-keeps g c told =
    let kept = c.loop-place.invariant in
    keeps_on _ _ c.args.most _ _ _ (Ok tt) c.compare_last.result (kept.only told) kept.goes (kept.keeps told) (c.compare_last.ensures.keeps told)

pub returns-clause-only : goal.returns-clause-only
returns-clause-only g c told = only_on _ _ _ NoFile (c.loop-place.invariant.only told) (c.compare_last.ensures.only told)

pub returns-clause-all : goal.returns-clause-all
returns-clause-all g c =
    let kept = c.loop-place.invariant in
    all_looked (Unit {0}) c.args.most c.loop-place.left c.args.self.now c.loop-place.self c.compare_last.new.self c.compare_last.result kept.exact kept.found c.in_default.ensures.none c.compare_last.ensures.goes c.compare_last.ensures.same c.compare_last.ensures.all

pub returns-in-Err-clause-blames : goal.returns-in-Err-clause-blames
returns-in-Err-clause-blames g c at is = c.in-Err.ensures.blames at (blamed_as {A = Unit {0}} {B = ℕ} c.in-Err.fault at is)

pub returns-in-Err-clause-through : goal.returns-in-Err-clause-through
returns-in-Err-clause-through g c told is =
    let there = c.loop-place.invariant.through told is in
    let comparing = c.in-Some.ensures.some.stage in
    absurd (cc (there, comparing))

pub returns-clause-through : goal.returns-clause-through
returns-clause-through g c told is = c.compare_last.ensures.through told (c.loop-place.invariant.through told is)

pub returns-in-Err-clause-broken : goal.returns-in-Err-clause-broken
returns-in-Err-clause-broken g c told =
    let kept = c.loop-place.invariant in
    breaks_as {A = Unit {0}} {B = ℕ} (g.G.Ground.told c.args.outside.now) c.args.self.now c.compare_next.new.self c.in-Err.fault (breaks_on _ _ c.args.self.now c.loop-place.self c.compare_next.new.self _ (kept.only told) kept.goes.same c.compare_next.ensures.goes.same (c.in-Err.ensures.broken told))

pub returns-in-Err-clause-stood : goal.returns-in-Err-clause-stood
returns-in-Err-clause-stood g c told =
    let kept = c.loop-place.invariant in
    let low = kept.goes.low in
    let were = ap looked_in kept.keep in
    let next = c.compare_next.ensures.goes.low in
    let are = ap looked_in c.compare_next.ensures.keep in
    stood_on _ _ c.args.self.now c.loop-place.self c.compare_next.new.self (kept.only told) kept.goes.same c.compare_next.ensures.keep (omega (arith, low, were)) (omega (arith, next, are)) (kept.stood told) (c.compare_next.ensures.stood told)

pub returns-clause-broken : goal.returns-clause-broken
returns-clause-broken g c told =
    let kept = c.loop-place.invariant in
    breaks_on _ _ c.args.self.now c.loop-place.self c.compare_last.new.self c.compare_last.result (kept.only told) kept.goes.same c.compare_last.ensures.goes.same (c.compare_last.ensures.broken told)

pub returns-clause-stood : goal.returns-clause-stood
returns-clause-stood g c told =
    let kept = c.loop-place.invariant in
    let low = kept.goes.low in
    let were = ap looked_in kept.keep in
    let last = c.compare_last.ensures.keep.1 in
    stood_on _ _ c.args.self.now c.loop-place.self c.compare_last.new.self (kept.only told) kept.goes.same c.compare_last.ensures.keep.0 (omega (arith, low, were)) (omega (arith, last)) (kept.stood told) (c.compare_last.ensures.stood told)

pub returns-clause-keep : goal.returns-clause-keep
returns-clause-keep g c = c.compare_last.ensures.keep.0 ∙ c.loop-place.invariant.keep
