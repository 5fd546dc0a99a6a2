use Rattle.std.proofs.Common.{arith}
use Rattle.ip_ground.specs.declared.names.FileName.TheVariants.{Prefix}
use Rattle.ip_ground.specs.Told.{Only}
use Rattle.ip_ground.proofs.Spans.{only_on}
use Rattle.ip_worker.proofs.Copying.{ready_then, begun, all_copied}
use Rattle.ip_worker.proofs.pair.write_prefix.Goals as goal

pub returns-clause-copies : goal.returns-clause-copies
returns-clause-copies g c told ready gone =
    let a = g.G.Ground.told c.args.outside.now in
    let m = g.G.Ground.told c.write.new.self in
    let n = g.G.Ground.told c.copy_runs.new.outside in
    let space = c.args.space.now in
    let attempt = c.args.attempt in
    let only = c.in_ok-write.ensures.only told in
    let writes = c.in_ok-write.ensures.does told (omega arith) in
    all_copied attempt space a m ready only c.args.runs.now c.copy_runs.result n (c.copy_runs.ensures.copies told (ready_then attempt space a m ready only) (begun attempt space a m ready only gone writes))

pub returns-clause-only : goal.returns-clause-only
returns-clause-only g c told = only_on _ _ _ (Only (Prefix c.args.attempt)) (c.in_ok-write.ensures.only told) (c.copy_runs.ensures.only told)
