use Rattle.std.proofs.Common.{◌≡◌, ℕ, ◌+◌, ◌-◌, ◌≤◌, length, take, drop, ◌∙◌, ap, arith}
use Rattle.std.proofs.lemmas.List.{length-take, length-drop}
use Rattle.ip_chunks.proofs.Pieces.{length-put_mid, read_next, gap_here, reads_short, reads_stopped}
use Rattle.ip_chunks.specs.Places.{chunk_byte}
use Rattle.ip_chunks.proofs.chunks.Chunks.read_at.Goals as goal

pub returns-in_err-got-clause-does : goal.returns-in_err-got-clause-does
returns-in_err-got-clause-does g c told =
    let kept = c.loop-done.invariant in
    reads_stopped c.args.self.now.size c.args.at (take c.loop-done.done c.loop-done.out) _ _ (kept.does told) (c.args.at + c.loop-done.done) (omega (arith, length-take c.loop-done.done c.loop-done.out)) _ c.read_piece.new.out _ c.args.out.now _ c.read_piece.result
    c.from_residual.result c.from_residual.ensures.0 (c.read_piece.ensures.does told)

pub returns-then-got-count-clause-does : goal.returns-then-got-count-clause-does
returns-then-got-count-clause-does g c told =
    let told_of = g.G.Ground.told in
    let size = c.args.self.now.size in
    let done = c.loop-done.done in
    let count = c.within-count.result in
    let got = c.in_ok-got.got in
    let out = c.loop-done.out in
    let new_out = c.read_piece.new.out in
    let piece = take ((done + count) - done) (drop done out) in
    let kept = c.loop-done.invariant in
    let room = c.within-count.ensures in
    let whole : length piece ≡ count = omega (arith, length-take ((done + count) - done) (drop done out), length-drop done out) in
    let as_long : length new_out ≡ length piece = c.read_piece.auto.out in
    let read = c.in_ok-got.ensures.does told in
    let within : done ≤ length out = omega (arith, kept.within, kept.long) in
    let read_so = read_next size c.args.at out new_out piece done ((done + count) - done) got (told_of c.args.outside.now) (told_of c.loop-done.outside) (told_of c.read_piece.new.outside) within (omega (arith, c.in_ok-got.ensures.fits, as_long)) (kept.does told) read in
    let front : c.args.at + done ≡ c.args.at + length (take done out) = omega (arith, length-take done out) in
    let gap = gap_here size c.args.at (take done out) _ _ (kept.does told) (c.args.at + done) front piece new_out _ got read (omega (arith, whole, c.if-got-count.true)) in
    reads_short size c.args.at (done + got) c.args.out.now _ _ _ read_so (ap (λ (n : ℕ). chunk_byte size (told_of c.args.outside.now).held n) (omega arith) ∙ gap)

pub loop-done-preserved : goal.loop-done-preserved
loop-done-preserved g c =
    let told_of = g.G.Ground.told in
    let done = c.loop-done.done in
    let count = c.within-count.result in
    let got = c.in_ok-got.got in
    let out = c.loop-done.out in
    let new_out = c.read_piece.new.out in
    let piece = take ((done + count) - done) (drop done out) in
    let kept = c.loop-done.invariant in
    let room = c.within-count.ensures in
    let as_long : length new_out ≡ length piece = c.read_piece.auto.out in
    let whole : length piece ≡ count = omega (arith, length-take ((done + count) - done) (drop done out), length-drop done out) in
    let fits = c.in_ok-got.ensures.fits in
    let within : done ≤ length out = omega (arith, kept.within, kept.long) in
    record {
      within = omega (arith, fits, whole);
      long = length-put_mid out new_out done ((done + count) - done) (omega arith) (omega (arith, as_long, whole)) ∙ kept.long;
      does = λ told.
          read_next c.args.self.now.size c.args.at out new_out piece done ((done + count) - done) got (told_of c.args.outside.now) (told_of c.loop-done.outside) (told_of c.read_piece.new.outside) within
          (omega (arith, fits, as_long)) (kept.does told) (c.in_ok-got.ensures.does told);
      counts = c.in_ok-got.ensures.counts ∙ kept.counts;
    }
