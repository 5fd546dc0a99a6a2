use Rattle.std.proofs.Common.{◌+◌, All}
use Rattle.ip_merge.proofs.RuleLaws.{Below}
use Rattle.ip_merge.proofs.rules.longest.Given as goal

-- a longer prefix of the path has no rule
abbrev pub invariant-loop-length : goal.invariant-loop-length
invariant-loop-length g l = All (Below (λ r. r.at) l.path (l.length + 1)) l.rules
