use Rattle.std.proofs.Common.{subst}
use Rattle.ip_spec.specs.declared.event.Event.{Event}
use Rattle.ip_spec.specs.Core.{Core, CoreStep, IsClosed}
use Rattle.ip_gen.specs.Phases.{phase_of}
use Rattle.ip_gen.proofs.Stepping.{IsSound, appended}
use Rattle.ip_gen.proofs.protocol.Core.step.Goals as goal

sound : (c : goal.After-append) → IsSound (record { records = c.append.new.records.items; horizon = c.self.inside.horizon; phase = phase_of c.self.inside.phase })
sound c =
    let old : Core = record { records = c.self.inside.records.items; horizon = c.self.inside.horizon; phase = phase_of c.self.inside.phase } in
    appended old c.as_slice.result.now c.append.new.records.items c.append.result c.self.invariant c.append.ensures.taken (λ e. (c.append.ensures.refused e).1) c.append.ensures.memory

pub invariant_of-self : goal.invariant_of-self
invariant_of-self c = sound c

pub returns-in-Append-clause-closed : goal.returns-in-Append-clause-closed
returns-in-Append-clause-closed c = (sound c).0

pub returns-in-Start-clause-refused : goal.returns-in-Start-clause-refused
returns-in-Start-clause-refused c e next s = c.start.ensures.refused e next (subst (λ (x : Event). CoreStep c.args.self.now x next) c.in-Start.is s)

pub returns-in-End-clause-refused : goal.returns-in-End-clause-refused
returns-in-End-clause-refused c e next s = c.end.ensures.refused (cc) next (subst (λ (x : Event). CoreStep c.args.self.now x next) c.in-End.is s)

pub returns-in-Accept-clause-refused : goal.returns-in-Accept-clause-refused
returns-in-Accept-clause-refused c e next s = c.accept.ensures.refused (cc) next (subst (λ (x : Event). CoreStep c.args.self.now x next) c.in-Accept.is s)

pub returns-in-Reject-clause-refused : goal.returns-in-Reject-clause-refused
returns-in-Reject-clause-refused c e next s = c.reject.ensures.refused (cc) next (subst (λ (x : Event). CoreStep c.args.self.now x next) c.in-Reject.is s)

pub returns-in-Cancel-clause-refused : goal.returns-in-Cancel-clause-refused
returns-in-Cancel-clause-refused c e next s = c.cancel.ensures.refused (cc) next (subst (λ (x : Event). CoreStep c.args.self.now x next) c.in-Cancel.is s)

pub returns-in-Foreign-clause-closed : goal.returns-in-Foreign-clause-closed
returns-in-Foreign-clause-closed c = subst IsClosed c.self-in-Foreign.view_is c.self-in-Foreign.invariant.0
