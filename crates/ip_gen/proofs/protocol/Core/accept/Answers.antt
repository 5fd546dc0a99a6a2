use Rattle.std.proofs.Common.{ap, subst}
use Rattle.ip_spec.specs.declared.event.Event.TheVariants as Event
use Rattle.ip_spec.specs.Core.{Core, CorePhase, CoreStep}
use Rattle.ip_gen.specs.Phases.{phase_of}
use Rattle.ip_gen.proofs.Stepping.{accepts, accepted}
use Rattle.ip_gen.proofs.protocol.Core.accept.Goals as goal

pub invariant_of-self : goal.invariant_of-self
invariant_of-self c =
    let old : Core = record { records = c.self.inside.records.items; horizon = c.self.inside.horizon; phase = phase_of c.self.inside.phase } in
    accepted old c.in-Collecting.commit c.in-Collecting.kept.keys c.in-Collecting.ended c.let_go.new.records.items (ap phase_of c.in-Collecting.is) c.if-not-ended.false c.let_go.ensures c.self.invariant

pub returns-clause-taken : goal.returns-clause-taken
returns-clause-taken c e =
    let old : Core = record { records = c.self.inside.records.items; horizon = c.self.inside.horizon; phase = phase_of c.self.inside.phase } in
    let new : Core = record { records = c.let_go.new.records.items; horizon = c.in-Collecting.commit; phase = CorePhase.idle } in
    subst (λ (s : Core). CoreStep s Event.Accept new) c.self.view_is
    (accepts old c.in-Collecting.commit c.in-Collecting.kept.keys c.in-Collecting.ended c.let_go.new.records.items (ap phase_of c.in-Collecting.is) c.if-not-ended.false c.let_go.ensures)

pub returns-clause-closed : goal.returns-clause-closed
returns-clause-closed c =
    let old : Core = record { records = c.self.inside.records.items; horizon = c.self.inside.horizon; phase = phase_of c.self.inside.phase } in
    (accepted old c.in-Collecting.commit c.in-Collecting.kept.keys c.in-Collecting.ended c.let_go.new.records.items (ap phase_of c.in-Collecting.is) c.if-not-ended.false c.let_go.ensures c.self.invariant).0
