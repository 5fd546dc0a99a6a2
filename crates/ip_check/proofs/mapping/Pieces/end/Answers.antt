use Rattle.ip_ground.specs.Told.{NoFile}
use Rattle.ip_ground.proofs.Spans.{only_on}
use Rattle.ip_check.proofs.Going.{ended}
use Rattle.ip_check.proofs.mapping.Pieces.end.Goals as goal

pub returns-in_err-compare_end-clause-only : goal.returns-in_err-compare_end-clause-only
returns-in_err-compare_end-clause-only g c told = only_on _ _ _ NoFile (c.in_ok-found.ensures.only told) (c.compare_end.ensures.only told)

pub returns-clause-says : goal.returns-clause-says
returns-clause-says g c told own whole made =
    let compared = c.in_ok-found.ensures in
    ended _ _ c.args.self.now c.flush.new.self c.in_ok-found.field-0 c.in_ok-compare_end.field-0 c.in_default.is compared.file compared.empty (compared.only told) own whole
    (compared.says told own whole _ made) (c.in_ok-compare_end.ensures.says told)

pub returns-clause-only : goal.returns-clause-only
returns-clause-only g c told = only_on _ _ _ NoFile (c.in_ok-found.ensures.only told) (c.compare_end.ensures.only told)
