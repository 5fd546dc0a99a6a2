-- How much a search finds at most.
--     most_bytes      of what is kept.      most_runs      its maximal runs.      most_looks      the records that are looked at
use Rattle.std.proofs.Common.{◌*◌, ◌≤◌, length, arith}
use Rattle.ip_base.specs.declared.limit.TheConstants.{OFFSET_MAX}
use Rattle.ip_image.specs.Virtual.{total}
use Rattle.ip_keep.specs.KeepView.{KeepView}
use Rattle.ip_keep.specs.Keeping.{IsKeep, looked_in}
use Rattle.ip_keep.specs.Runs.{joined}
use Rattle.ip_keep.proofs.RunsApart.{apart_total, apart_few, joined_few}

pub most_bytes : (k : KeepView) → IsKeep k → total k.kept ≤ OFFSET_MAX
most_bytes k keep =
    let t = apart_total k.horizon k.kept keep.apart in
    let a = keep.ends in
    let b = keep.low in
    let d = keep.high in
    omega (arith, t, a, b, d)

pub most_runs : (k : KeepView) → IsKeep k → length (joined k.kept) ≤ OFFSET_MAX
most_runs k keep =
    let m = most_bytes k keep in
    let f = apart_few k.horizon k.kept keep.apart in
    let j = joined_few k.kept in
    omega (arith, m, f, j)

pub most_looks : (k : KeepView) → IsKeep k → looked_in k ≤ 2 * OFFSET_MAX
most_looks k keep =
    let m = most_bytes k keep in
    let f = apart_few k.horizon k.kept keep.apart in
    let a = keep.ends in
    let d = keep.high in
    let e = keep.seen in
    omega (arith, m, f, a, d, e)
