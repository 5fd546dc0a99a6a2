use Rattle.std.proofs.Common.{◌∙◌, ap}
use Rattle.ip_ground.specs.Told.{NoFile}
use Rattle.ip_ground.proofs.Spans.{only_on}
use Rattle.ip_check.specs.Alike.{ends}
use Rattle.ip_check.proofs.Reading.{held_still, own_still, count_room, bytes_read}
use Rattle.ip_check.proofs.Differing.{part_alike, part_differs}
use Rattle.ip_check.proofs.compare.compare_part.Goals as goal

pub returns-in_default-clause-says : goal.returns-in_default-clause-says
returns-in_default-clause-says g c told own whole piece so_far =
    let reads = c.in_ok-count.ensures.does told in
    part_alike c.args.produced whole c.args.place c.args.want.now _ c.in_ok-count.count c.requires.some piece _ so_far
    (count_room c.args.file _ _ c.args.place _ _ _ own reads c.args.want.now c.requires.room) (bytes_read c.args.file _ _ c.args.place _ _ _ own reads) c.in_default.ensures

pub returns-in_err-got-clause-only : goal.returns-in_err-got-clause-only
returns-in_err-got-clause-only g c told = only_on _ _ _ NoFile (c.in_ok-count.ensures.does told).only (c.seen_there.ensures.only told)

pub returns-clause-says : goal.returns-clause-says
returns-clause-says g c told own whole piece so_far =
    let reads = c.in_ok-count.ensures.does told in
    let there = c.in_ok-got.ensures in
    part_differs c.args.produced whole c.args.place c.args.want.now _ c.in_ok-count.count c.requires.some piece _ so_far
    (count_room c.args.file _ _ c.args.place _ _ _ own reads c.args.want.now c.requires.room) (bytes_read c.args.file _ _ c.args.place _ _ _ own reads)
    c.in-Some.index c.in-Some.ensures.0 c.in-Some.ensures.1 c.in_ok-got.got there.within there.behind
    (λ past first. there.front told (own_still c.args.file _ _ own reads.only) past first ∙ ap ends (held_still c.args.file _ _ own reads.only))

pub returns-clause-only : goal.returns-clause-only
returns-clause-only g c told = only_on _ _ _ NoFile (c.in_ok-count.ensures.does told).only (c.in_ok-got.ensures.only told)
