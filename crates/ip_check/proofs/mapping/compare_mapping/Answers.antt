use Rattle.std.proofs.Common.{arith}
use Rattle.ip_ground.specs.Told.{NoFile}
use Rattle.ip_ground.proofs.Spans.{only_on}
use Rattle.ip_keep.specs.Runs.{joined, left_of}
use Rattle.ip_check.proofs.Making.{total_joined}
use Rattle.ip_check.proofs.Going.{mapping_found, mapping_ended}
use Rattle.ip_check.proofs.mapping.compare_mapping.Goals as goal

pub put_rows-requires-clause-total : goal.put_rows-requires-clause-total
put_rows-requires-clause-total g c =
    let same = total_joined (left_of c.args.runs) in
    let all = c.requires.total in
    omega (arith, same, all)

pub returns-in-Some-clause-says : goal.returns-in-Some-clause-says
returns-in-Some-clause-says g c told own =
    let begins = c.in_ok-pieces.ensures in
    mapping_found (g.G.Ground.told c.args.outside.now) c.args.job.now.horizon c.args.job.now.end c.count_runs-rows.result _ (joined (left_of c.args.runs)) c.in_ok-pieces.pieces c.put_rows.new.self c.in_ok-found.field-0
    c.count_runs-rows.ensures begins.file begins.place begins.bytes own (c.in_ok-found.ensures.says told) c.in-Some.found c.in-Some.is

pub returns-clause-says : goal.returns-clause-says
returns-clause-says g c told own =
    let begins = c.in_ok-pieces.ensures in
    let compared = c.in_ok-found.ensures in
    mapping_ended (g.G.Ground.told c.args.outside.now) c.args.job.now.horizon c.args.job.now.end c.count_runs-rows.result _ (joined (left_of c.args.runs)) c.in_ok-pieces.pieces c.put_rows.new.self c.in_ok-found.field-0
    c.count_runs-rows.ensures begins.file begins.place begins.bytes own (compared.says told) (g.G.Ground.told c.put_rows.new.outside) c.end.result c.in-None.is compared.file (compared.only told) (c.end.ensures.says told)

pub returns-clause-only : goal.returns-clause-only
returns-clause-only g c told = only_on _ _ _ NoFile (c.in_ok-found.ensures.only told) (c.end.ensures.only told)
