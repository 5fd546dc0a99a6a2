use Rattle.std.proofs.Common.{◌∙◌, arith, rules, subst}
use Rattle.ip_ground.specs.Counts.{Counts}
use Rattle.ip_ground.specs.Told.{NoFile}
use Rattle.ip_ground.proofs.Spans.{only_on}
use Rattle.ip_keep.specs.Runs.{left_of}
use Rattle.ip_check.specs.Faults.{counted_check}
use Rattle.ip_check.proofs.Going.{goes_begun, goes_on, goes_end, found_here, row_fits, sum_fits, falls}
use Rattle.ip_check.proofs.mapping.Pieces.put_rows.Goals as goal

pub loop-run-init : goal.loop-run-init
loop-run-init g c = goes_begun _ _ _ c.args.self.now (left_of c.args.runs) c.requires.fit c.requires.fits

pub take_run-requires : goal.take_run-requires
take_run-requires g c = record { fit = c.loop-run.invariant.fit }

pub put-requires-clause-few : goal.put-requires-clause-few
put-requires-clause-few g c =
    let room = row_fits _ _ _ _ _ _ _ _ _ _ c.loop-run.invariant (left_of c.take_run.new.self) c.in-Some.run' c.in-Some.ensures.gives in
    let few = c.requires.few in
    omega (arith, room, few)

pub put-requires-clause-fits : goal.put-requires-clause-fits
put-requires-clause-fits g c = c.loop-run.invariant.fits

pub returns-in_err-found-clause-file : goal.returns-in_err-found-clause-file
returns-in_err-found-clause-file g c = c.in_err-found.ensures.file ∙ c.loop-run.invariant.file

pub returns-in_err-found-clause-only : goal.returns-in_err-found-clause-only
returns-in_err-found-clause-only g c told = only_on _ _ _ NoFile (c.loop-run.invariant.only told) (c.in_err-found.ensures.only told)

pub returns-in_err-found-clause-counts : goal.returns-in_err-found-clause-counts
returns-in_err-found-clause-counts g c =
    subst (λ n. Counts counted_check c.from_residual.result n (g.G.Ground.counts_of c.put.new.outside)) c.loop-run.invariant.counts (search rules)

pub returns-in-Some-2-clause-file : goal.returns-in-Some-2-clause-file
returns-in-Some-2-clause-file g c = c.in_ok-found.ensures.file ∙ c.loop-run.invariant.file

pub returns-in-Some-2-clause-few : goal.returns-in-Some-2-clause-few
returns-in-Some-2-clause-few g c =
    let room = row_fits _ _ _ _ _ _ _ _ _ _ c.loop-run.invariant (left_of c.take_run.new.self) c.in-Some.run' c.in-Some.ensures.gives in
    let few = c.requires.few in
    let more = c.in_ok-found.ensures.few in
    omega (arith, room, few, more)

pub returns-in-Some-2-clause-says : goal.returns-in-Some-2-clause-says
returns-in-Some-2-clause-says g c told own whole made =
    found_here _ _ _ _ _ _ _ _ _ _ c.loop-run.invariant (left_of c.take_run.new.self) c.in-Some.run' c.in-Some.ensures.gives c.put.new.self c.in_ok-found.field-0 c.in_ok-found.ensures.says
    c.in-Some-2.found c.in-Some-2.is told own whole made

pub returns-in-Some-2-clause-only : goal.returns-in-Some-2-clause-only
returns-in-Some-2-clause-only g c told = only_on _ _ _ NoFile (c.loop-run.invariant.only told) (c.in_ok-found.ensures.only told)

pub returns-in-Some-2-clause-counts : goal.returns-in-Some-2-clause-counts
returns-in-Some-2-clause-counts g c = c.in_ok-found.ensures.counts ∙ c.loop-run.invariant.counts

pub overflow_add-place : goal.overflow_add-place
overflow_add-place g c =
    let sum = sum_fits _ _ _ _ _ _ _ _ _ _ c.loop-run.invariant (left_of c.take_run.new.self) c.in-Some.run' c.in-Some.ensures.gives in
    let total = c.requires.total in
    omega (arith, sum, total)

pub loop-run-smaller : goal.loop-run-smaller
loop-run-smaller g c =
    let fewer = falls _ _ _ _ _ _ _ _ _ _ c.loop-run.invariant (left_of c.take_run.new.self) c.in-Some.run' c.in-Some.ensures.gives in
    omega (arith, fewer)

pub loop-run-preserved : goal.loop-run-preserved
loop-run-preserved g c =
    let put = c.in_ok-found.ensures in
    goes_on _ _ _ _ _ _ _ _ _ _ c.loop-run.invariant (left_of c.take_run.new.self) c.in-Some.run' c.in-Some.ensures.gives c.put.new.self c.in_ok-found.field-0 put.says
    _ _ c.in_default-2.is c.in-Some.ensures.fit put.fits put.file put.few put.only put.counts

pub returns-clause-file : goal.returns-clause-file
returns-clause-file g c = c.loop-run.invariant.file

pub returns-clause-few : goal.returns-clause-few
returns-clause-few g c =
    let before = c.loop-run.invariant.few in
    let few = c.requires.few in
    omega (arith, before, few)

pub returns-clause-fits : goal.returns-clause-fits
returns-clause-fits g c = c.loop-run.invariant.fits

pub returns-clause-says : goal.returns-clause-says
returns-clause-says g c told own whole made =
    goes_end _ _ _ _ _ _ _ _ _ _ c.loop-run.invariant (left_of c.take_run.new.self) c.in_default.ensures.gives told own whole made

pub returns-clause-only : goal.returns-clause-only
returns-clause-only g c told = c.loop-run.invariant.only told

pub returns-clause-counts : goal.returns-clause-counts
returns-clause-counts g c = c.loop-run.invariant.counts
