use Rattle.std.proofs.Common.{◌≡◌, ◌+◌, ◌∙◌, ℕ, length, take, drop, subst, arith, length-append, length-drop}
use Rattle.std.proofs.lemmas.List.{length-take}
use Rattle.ip_ground.specs.declared.names.FileName.TheVariants.{Prefix}
use Rattle.ip_ground.specs.Told.{Only}
use Rattle.ip_ground.proofs.Spans.{only_on}
use Rattle.ip_space.specs.SpaceView.{byte_at}
use Rattle.ip_worker.specs.Steps.{IsCopied}
use Rattle.ip_worker.proofs.Copying.{ready_then, run_on, run_place, run_missing}
use Rattle.ip_worker.proofs.pair.copy_run.Goals as goal

pub overflow_add-run : goal.overflow_add-run
overflow_add-run g c = omega (arith, c.loop-done-test.true, c.requires.inside, c.requires.ends)

pub returns-in-Err-clause-copies : goal.returns-in-Err-clause-copies
returns-in-Err-clause-copies g c told ready before held size =
    let a = g.G.Ground.told c.args.outside.now in
    let m = g.G.Ground.told c.loop-done.outside in
    let space = c.args.space.now in
    let attempt = c.args.attempt in
    let at = c.args.run.now.at in
    let done = c.loop-done.done in
    let kept = c.loop-done.invariant in
    let so = kept.does told ready before held size in
    let long = length-take c.min-count.result c.loop-done.buffer in
    let copies = c.in-Err.ensures.copies told (ready_then attempt space a m ready (kept.only told)) _ so.held (run_place attempt space a m ready (kept.only told) at done c.args.place before size so) in
    record {
      ok = tt;
      whole = λ is there. run_missing attempt space a m ready (kept.only told) at done (length (take c.min-count.result c.loop-done.buffer)) c.args.run.now.length (omega (arith, long, c.min-count.ensures, kept.within)) (copies.whole is) there;
    }

pub returns-in-Err-clause-only : goal.returns-in-Err-clause-only
returns-in-Err-clause-only g c told = only_on _ _ _ (Only (Prefix c.args.attempt)) (c.loop-done.invariant.only told) (c.copy_piece.ensures.only told)

pub loop-done-preserved : goal.loop-done-preserved
loop-done-preserved g c =
    let a = g.G.Ground.told c.args.outside.now in
    let m = g.G.Ground.told c.loop-done.outside in
    let n = g.G.Ground.told c.copy_piece.new.outside in
    let space = c.args.space.now in
    let attempt = c.args.attempt in
    let at = c.args.run.now.at in
    let done = c.loop-done.done in
    let count = c.min-count.result in
    let kept = c.loop-done.invariant in
    let piece = take count c.loop-done.buffer in
    let taken = length-take count c.loop-done.buffer in
    let whole : length piece ≡ count = omega (arith, taken, c.min-count.ensures) in
    let as_long : length c.copy_piece.new.piece ≡ length piece = c.copy_piece.auto.piece in
    record {
      within = omega (arith, c.min-count.ensures, kept.within);
      long = omega (arith, length-append c.copy_piece.new.piece (drop count c.loop-done.buffer), length-drop count c.loop-done.buffer, as_long, whole, kept.long, c.min-count.ensures);
      only = λ told. only_on _ _ _ (Only (Prefix attempt)) (kept.only told) (c.copy_piece.ensures.only told);
      does = λ told ready before held size.
          let so = kept.does told ready before held size in
          let copies = c.in-Ok.ensures.copies told (ready_then attempt space a m ready (kept.only told)) _ so.held (run_place attempt space a m ready (kept.only told) at done c.args.place before size so) in
          subst (λ (k : ℕ). IsCopied (byte_at a space) attempt at (done + k) before n) whole (run_on attempt space a m ready (kept.only told) at before n done (length piece) so copies.ok);
      counts = c.in-Ok.ensures.counts ∙ kept.counts;
    }
