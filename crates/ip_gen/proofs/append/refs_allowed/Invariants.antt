use Rattle.std.proofs.Common.{take, ◌<◌}
use Rattle.std.specs.List.{AllByRecursion}
use Rattle.ip_spec.specs.Core.{IsPresent, Stays}
use Rattle.ip_gen.specs.Phases.{phase_of}
use Rattle.ip_gen.proofs.append.refs_allowed.Given as goal

abbrev pub invariant-loop-at : goal.invariant-loop-at
invariant-loop-at l = AllByRecursion (λ at. (at < l.before) × IsPresent l.records at × Stays (phase_of l.phase) at) (take l.at-index l.refs)
