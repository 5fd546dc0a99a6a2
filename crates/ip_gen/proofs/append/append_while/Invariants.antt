use Rattle.ip_gen.specs.Phases.{phase_of}
use Rattle.ip_gen.proofs.Appending.{Appends}
use Rattle.ip_gen.proofs.append.append_while.Given as goal

abbrev pub invariant-loop-record : goal.invariant-loop-record
invariant-loop-record l = Appends l.fn.records.items l.records.items l.more (phase_of l.phase) l.record-index
