use Rattle.ip_base.proofs.PathReading.{Reading}
use Rattle.ip_base.proofs.path.Path.read.Given as goal

abbrev pub invariant-loop-at : goal.invariant-loop-at
invariant-loop-at l = Reading l.text l.at l.from l.steps
