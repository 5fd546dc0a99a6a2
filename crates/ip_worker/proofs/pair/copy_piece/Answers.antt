use Rattle.std.proofs.Common.{◌≡◌, length, arith}
use Rattle.ip_ground.specs.declared.names.FileName.TheVariants.{Prefix}
use Rattle.ip_ground.specs.Told.{NoFile, Only}
use Rattle.ip_ground.proofs.Spans.{only_on}
use Rattle.ip_worker.proofs.Copying.{of_none, now_held, reaches_end, piece_copied}
use Rattle.ip_worker.proofs.pair.copy_piece.Goals as goal

pub returns-in_err-write-clause-only : goal.returns-in_err-write-clause-only
returns-in_err-write-clause-only g c told = only_on _ _ _ (Only (Prefix c.args.attempt)) (of_none (Only (Prefix c.args.attempt)) _ _ (c.in_ok-count.ensures.only told)) (c.write.ensures.only told)

pub returns-clause-copies : goal.returns-clause-copies
returns-clause-copies g c told ready before held size =
    let a = g.G.Ground.told c.args.outside.now in
    let b = g.G.Ground.told c.read.new.outside in
    let room = length c.args.piece.now in
    let only = c.in_ok-count.ensures.only told in
    let long : length c.read.new.out ≡ room = c.read.auto.out in
    let full : c.in_ok-count.count ≡ room = omega (arith, long, c.if-count-piece.false, c.in_ok-count.ensures.fits) in
    let there = now_held c.args.attempt c.args.space.now a b ready before held c.args.at c.args.place room size only in
    let writes = c.in_ok-write.ensures.does told (reaches_end before _ c.args.place there size) in
    record {
      ok = piece_copied c.args.attempt c.args.space.now a b ready before held c.args.at c.args.place room size only _ c.read.new.out c.in_ok-count.count (c.in_ok-count.ensures.reads told ready.readable) full long writes;
      whole = λ no held. absurd (cc no);
    }

pub returns-clause-only : goal.returns-clause-only
returns-clause-only g c told = only_on _ _ _ (Only (Prefix c.args.attempt)) (of_none (Only (Prefix c.args.attempt)) _ _ (c.in_ok-count.ensures.only told)) (c.write.ensures.only told)

pub returns-then-count-piece-clause-only : goal.returns-then-count-piece-clause-only
returns-then-count-piece-clause-only g c told = of_none (Only (Prefix c.args.attempt)) _ _ (only_on _ _ _ NoFile (c.in_ok-count.ensures.only told) (c.note_damage.ensures.does told))
