use Rattle.std.proofs.Common.{ap, refl, subst}
use Rattle.ip_spec.specs.declared.event.Event.TheVariants as Event
use Rattle.ip_spec.specs.Core.{Core, CorePhase, CoreStep}
use Rattle.ip_gen.specs.Phases.{phase_of}
use Rattle.ip_gen.proofs.protocol.Core.cancel.Goals as goal

pub returns-clause-taken : goal.returns-clause-taken
returns-clause-taken c e =
    let new : Core = record { records = c.self.inside.records.items; horizon = c.self.inside.horizon; phase = CorePhase.idle } in
    subst (λ (s : Core). CoreStep s Event.Cancel new) c.self.view_is
    (c.in-Collecting.field-0, c.in-Collecting.field-1.keys, c.in-Collecting.field-2, ap phase_of c.in-Collecting.is, refl)
