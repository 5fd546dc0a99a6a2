use Rattle.std.proofs.Common.{◌≡◌, ◌∙◌, ap, Err, length, arith}
use Rattle.ip_ground.specs.declared.names.FileName.TheVariants.{Prefix}
use Rattle.ip_ground.specs.Told.{Only}
use Rattle.ip_ground.proofs.Spans.{only_on}
use Rattle.ip_image.specs.declared.run.Run.{Run}
use Rattle.ip_worker.specs.declared.fault.WorkFault.{WorkFault}
use Rattle.ip_worker.proofs.Copying.{ready_then, runs_on, runs_missing, total_next}
use Rattle.ip_worker.proofs.pair.copy_runs.Goals as goal

abbrev no_run : Run
no_run = record { at = 0; length = 0 }

pub returns-in-Err-clause-copies : goal.returns-in-Err-clause-copies
returns-in-Err-clause-copies g c told ready empty =
    let a = g.G.Ground.told c.args.outside.now in
    let m = g.G.Ground.told c.loop-run.outside in
    let space = c.args.space.now in
    let attempt = c.args.attempt in
    let kept = c.loop-run.invariant in
    let so = kept.does told ready empty in
    let copies = c.in-Err.ensures.copies told (ready_then attempt space a m ready (kept.only told)) _ so.0 so.1 in
    record {
      ok = tt;
      whole = λ is there.
          let damaged : c.in-Err.fault ≡ WorkFault.Damaged = cc is in
          runs_missing attempt space a m ready (kept.only told) c.args.runs.now c.loop-run.run-index no_run c.loop-run-test.true (copies.whole (ap Err damaged)) there;
    }

pub returns-in-Err-clause-only : goal.returns-in-Err-clause-only
returns-in-Err-clause-only g c told = only_on _ _ _ (Only (Prefix c.args.attempt)) (c.loop-run.invariant.only told) (c.copy_run.ensures.only told)

pub loop-run-preserved : goal.loop-run-preserved
loop-run-preserved g c =
    let a = g.G.Ground.told c.args.outside.now in
    let m = g.G.Ground.told c.loop-run.outside in
    let n = g.G.Ground.told c.copy_run.new.outside in
    let space = c.args.space.now in
    let attempt = c.args.attempt in
    let kept = c.loop-run.invariant in
    let as_long : length c.copy_run.new.buffer ≡ length c.loop-run.buffer = c.copy_run.auto.buffer in
    record {
      place = let sum = total_next c.args.runs.now c.loop-run.run-index no_run c.loop-run-test.true in omega (arith, sum, kept.place);
      long = as_long ∙ kept.long;
      only = λ told. only_on _ _ _ (Only (Prefix attempt)) (kept.only told) (c.copy_run.ensures.only told);
      does = λ told ready empty.
          let so = kept.does told ready empty in
          let copies = c.in-Ok.ensures.copies told (ready_then attempt space a m ready (kept.only told)) _ so.0 so.1 in
          runs_on attempt space a m ready (kept.only told) c.args.runs.now c.loop-run.run-index no_run c.loop-run.place n c.loop-run-test.true so.1 copies.ok;
      counts = c.in-Ok.ensures.counts ∙ kept.counts;
    }
