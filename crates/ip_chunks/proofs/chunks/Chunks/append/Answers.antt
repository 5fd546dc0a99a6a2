use Rattle.std.proofs.Common.{◌∙◌, ◌+◌, ◌-◌, Ok, length, take, arith}
use Rattle.std.proofs.lemmas.List.{length-take}
use Rattle.ip_chunks.proofs.Borders.{some_size, border_next}
use Rattle.ip_chunks.proofs.Pieces.{append_next, only_next, appends_stopped, no_gap_here}
use Rattle.ip_chunks.proofs.chunks.Chunks.append.Goals as goal

pub returns-in_err-write_piece-clause-does : goal.returns-in_err-write_piece-clause-does
returns-in_err-write_piece-clause-does g c told no_gap =
    let told_of = g.G.Ground.told in
    let size = c.args.self.now.size in
    let bytes = c.args.bytes.now in
    let done = c.loop-done.done in
    let count = c.within-count.result in
    let kept = c.loop-done.invariant in
    let so_far = kept.does told no_gap in
    let long = length-take done bytes in
    let here = no_gap_here size c.args.end (take done bytes) (told_of c.args.outside.now) (told_of c.loop-done.outside) no_gap so_far (c.args.end + done) (omega arith) (λ some. kept.border (omega (arith, some)) c.loop-done-test.true) in
    let next = append_next size c.args.end bytes done count c.write_piece.result (told_of c.args.outside.now) (told_of c.loop-done.outside) (told_of c.write_piece.new.outside) kept.within so_far (c.write_piece.ensures.does told here) in
    appends_stopped size c.args.end (take (done + count) bytes) bytes c.write_piece.result c.from_residual.result _ _ (omega (arith, length-take (done + count) bytes)) c.from_residual.ensures.0 next

pub returns-in_err-write_piece-clause-only : goal.returns-in_err-write_piece-clause-only
returns-in_err-write_piece-clause-only g c told =
    let told_of = g.G.Ground.told in
    let done = c.loop-done.done in
    let kept = c.loop-done.invariant in
    only_next c.args.self.now.size c.args.end c.args.bytes.now done ((done + c.within-count.result) - done) (told_of c.args.outside.now) (told_of c.loop-done.outside) (told_of c.write_piece.new.outside) kept.within (kept.only told)
    (c.write_piece.ensures.only told)

pub loop-done-preserved : goal.loop-done-preserved
loop-done-preserved g c =
    let told_of = g.G.Ground.told in
    let size = c.args.self.now.size in
    let bytes = c.args.bytes.now in
    let done = c.loop-done.done in
    let count = c.within-count.result in
    let kept = c.loop-done.invariant in
    let long = length-take done bytes in
    record {
      within = omega (arith, c.within-count.ensures);
      does = λ told no_gap.
          let so_far = kept.does told no_gap in
          let here = no_gap_here size c.args.end (take done bytes) (told_of c.args.outside.now) (told_of c.loop-done.outside) no_gap so_far (c.args.end + done) (omega (arith, long)) (λ some. kept.border (omega (arith, some)) c.loop-done-test.true) in
          append_next size c.args.end bytes done count (Ok tt) (told_of c.args.outside.now) (told_of c.loop-done.outside) (told_of c.write_piece.new.outside) kept.within so_far (c.in_ok-write_piece.ensures.does told here);
      only = λ told.
          only_next size c.args.end bytes done ((done + count) - done) (told_of c.args.outside.now) (told_of c.loop-done.outside) (told_of c.write_piece.new.outside) kept.within (kept.only told) (c.in_ok-write_piece.ensures.only told);
      border = λ some more. border_next size c.args.end done (length bytes) count (some_size size c.requires.allowed) c.within-count.ensures more;
      none = λ zero. absurd (omega (arith, zero, c.loop-done-test.true));
      counts = c.in_ok-write_piece.ensures.counts ∙ kept.counts;
    }
