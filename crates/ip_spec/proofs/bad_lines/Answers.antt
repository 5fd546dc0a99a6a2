use Rattle.ip_spec.specs.Line.{IsLineOf}
use Rattle.ip_spec.proofs.LineLaws.{one_place}
use Rattle.ip_spec.proofs.bad_lines.Goals as goal

pub returns : goal.returns
returns c = one_place IsLineOf
