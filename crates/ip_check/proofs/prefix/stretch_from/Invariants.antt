use Rattle.std.proofs.Common.{◌-◌, drop, reverse}
use Rattle.ip_check.specs.Stretching.{IsStretch}
use Rattle.ip_check.proofs.prefix.stretch_from.Given as goal

abbrev pub invariant-loop-stretch : goal.invariant-loop-stretch
invariant-loop-stretch l = IsStretch (drop l.compared (reverse l.kept)) l.most l.stretch

abbrev pub decreases-loop-stretch : goal.decreases-loop-stretch
decreases-loop-stretch l = l.left - l.stretch.records
