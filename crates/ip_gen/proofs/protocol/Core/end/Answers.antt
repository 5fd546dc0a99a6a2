use Rattle.std.proofs.Common.{◌∙◌, ap, refl, subst, true}
use Rattle.ip_spec.specs.declared.event.Event.TheVariants as Event
use Rattle.ip_spec.specs.Core.{Core, CorePhase, CoreStep}
use Rattle.ip_gen.specs.Phases.{phase_of}
use Rattle.ip_gen.proofs.protocol.Core.end.Goals as goal

pub returns-clause-taken : goal.returns-clause-taken
returns-clause-taken c e =
    let kept = c.in-Collecting.field-1.keys in
    let new : Core = record { records = c.self.inside.records.items; horizon = c.self.inside.horizon; phase = CorePhase.collecting c.in-Collecting.field-0 kept true } in
    subst (λ (s : Core). CoreStep s Event.End new) c.self.view_is
    (c.in-Collecting.field-0, kept, ap phase_of c.in-Collecting.is ∙ ap (CorePhase.collecting c.in-Collecting.field-0 kept) c.if-ended.false, refl)
