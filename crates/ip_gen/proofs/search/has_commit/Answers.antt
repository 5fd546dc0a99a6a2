use Rattle.ip_gen.proofs.Stepping.{has_commit_is}
use Rattle.ip_gen.proofs.search.has_commit.Goals as goal

pub returns-in-Some : goal.returns-in-Some
returns-in-Some c =
    let found = c.in-Some.ensures.found in
    (λ commit. (c.in-Some.record.now, found.0, found.1, commit), has_commit_is c.args.records.now c.args.at c.in-Some.record.now c.requires found.0 found.1)
