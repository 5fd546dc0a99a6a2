-- What contracts see of a phase.
use Rattle.ip_gen.specs.declared.phase.Phase.{Phase}
use Rattle.ip_gen.specs.declared.phase.Phase.TheVariants.{Idle, Collecting}
use Rattle.ip_spec.specs.Core.{CorePhase}

abbrev pub phase_of : Phase → CorePhase
phase_of Idle = CorePhase.idle
phase_of (Collecting commit kept ended) = CorePhase.collecting commit kept.keys ended
