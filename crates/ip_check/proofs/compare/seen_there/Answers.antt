use Rattle.ip_check.proofs.Reading.{held_still}
use Rattle.ip_check.proofs.Differing.{some_size, no_size}
use Rattle.ip_check.proofs.compare.seen_there.Goals as goal

pub returns-in-Some-clause-front : goal.returns-in-Some-clause-front
returns-in-Some-clause-front g c told own past first =
    let measures = c.in_ok-length.ensures.does told in
    some_size _ _ _ c.in-Some.field-0 (held_still c.args.file _ _ own measures.only) measures.ok (cc (c.in-Some.is))

pub returns-in-None-clause-front : goal.returns-in-None-clause-front
returns-in-None-clause-front g c told own past first =
    let measures = c.in_ok-length.ensures.does told in
    no_size _ _ _ (held_still c.args.file _ _ own measures.only) measures.ok (cc (c.in-None.is))
