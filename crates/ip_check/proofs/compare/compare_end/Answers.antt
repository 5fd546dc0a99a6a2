use Rattle.std.proofs.Common.{arith}
use Rattle.ip_ground.specs.Told.{NoFile}
use Rattle.ip_ground.proofs.Spans.{only_on}
use Rattle.ip_check.proofs.Reading.{held_still, count_read, bytes_read}
use Rattle.ip_check.proofs.Differing.{ends_longer, ends_there, ends_absent}
use Rattle.ip_check.proofs.compare.compare_end.Goals as goal

pub returns-then-count-gt0-clause-says : goal.returns-then-count-gt0-clause-says
returns-then-count-gt0-clause-says g c told own whole all so_far =
    let reads = c.in_ok-count.ensures.does told in
    ends_longer c.args.produced whole c.args.place all c.in_ok-count.count c.read.new.out _ so_far (count_read c.args.file _ _ c.args.place _ _ _ own reads) (bytes_read c.args.file _ _ c.args.place _ _ _ own reads) c.if-count-gt0.true

pub returns-in_err-length-clause-only : goal.returns-in_err-length-clause-only
returns-in_err-length-clause-only g c told = only_on _ _ _ NoFile (c.in_ok-count.ensures.does told).only (c.length.ensures.does told).only

pub returns-in-Some-clause-says : goal.returns-in-Some-clause-says
returns-in-Some-clause-says g c told own whole all so_far =
    let reads = c.in_ok-count.ensures.does told in
    let measures = c.in_ok-length.ensures.does told in
    let same = held_still c.args.file _ _ own (only_on _ _ _ NoFile reads.only measures.only) in
    ends_there c.args.produced whole c.args.place all c.in_ok-count.count c.read.new.out _ _ _ c.in-Some.field-0 so_far (count_read c.args.file _ _ c.args.place _ _ _ own reads) (λ some. let few = c.if-count-gt0.false in omega (arith, some, few)) same measures.ok (cc (c.in-Some.is))

pub returns-in-Some-clause-only : goal.returns-in-Some-clause-only
returns-in-Some-clause-only g c told = only_on _ _ _ NoFile (c.in_ok-count.ensures.does told).only (c.in_ok-length.ensures.does told).only

pub returns-in-None-clause-says : goal.returns-in-None-clause-says
returns-in-None-clause-says g c told own whole all so_far =
    let reads = c.in_ok-count.ensures.does told in
    let measures = c.in_ok-length.ensures.does told in
    let same = held_still c.args.file _ _ own (only_on _ _ _ NoFile reads.only measures.only) in
    ends_absent c.args.produced whole c.args.place all c.in_ok-count.count c.read.new.out _ _ _ so_far same measures.ok (cc (c.in-None.is))

pub returns-in-None-clause-only : goal.returns-in-None-clause-only
returns-in-None-clause-only g c told = only_on _ _ _ NoFile (c.in_ok-count.ensures.does told).only (c.in_ok-length.ensures.does told).only
