use Rattle.ip_space.proofs.StretchRows.{stretch_lies}
use Rattle.ip_space.proofs.stretches_lie.Goals as goal

pub returns : goal.returns
returns c = stretch_lies
