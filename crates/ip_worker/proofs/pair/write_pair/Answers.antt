use Rattle.std.proofs.Common.{◌≡◌, ap, sym, subst, arith}
use Rattle.ip_image.specs.Virtual.{total}
use Rattle.ip_space.specs.SpaceView.{SpaceView, AreBelow}
use Rattle.ip_keep.specs.Runs.{joined}
use Rattle.ip_worker.proofs.RowSums.{rows_inside, rows_sum}
use Rattle.ip_worker.proofs.pair.write_pair.Goals as goal

pub write_files-requires-clause-inside : goal.write_files-requires-clause-inside
write_files-requires-clause-inside g c =
    let k = c.args.keep.now in
    let end = c.space.result.now.layout.end in
    let is : c.deref.result.now ≡ joined k.kept = cc (c.deref.ensures.value, c.in_ok-runs.ensures.runs) in
    let same = ap (λ (s : SpaceView). s.layout.end) c.space.ensures in
    let low = c.requires.keep.keep.low in
    let high = c.requires.keep.keep.high in
    subst (AreBelow end) (sym is) (rows_inside k.horizon 0 0 end (joined k.kept) (omega (arith, same, low, high)) c.in_ok-runs.ensures.rows)

pub write_files-requires-clause-room : goal.write_files-requires-clause-room
write_files-requires-clause-room g c =
    let k = c.args.keep.now in
    let is : c.deref.result.now ≡ joined k.kept = cc (c.deref.ensures.value, c.in_ok-runs.ensures.runs) in
    let same = ap total is in
    let sum = rows_sum k.horizon 0 0 (joined k.kept) (omega arith) c.in_ok-runs.ensures.rows in
    omega (arith, same, sum, c.requires.keep.horizon, c.requires.job.some, c.requires.job.most)
