use Rattle.std.proofs.Common.{ap, sym, subst, refl, List, false}
use Rattle.ip_spec.specs.declared.event.CoreRecord.{CoreRecord}
use Rattle.ip_spec.specs.declared.event.Event.TheVariants as Event
use Rattle.ip_spec.specs.Core.{AreReached, Core, CorePhase, CoreStep, end_of}
use Rattle.ip_gen.specs.Laws.{HasCommit, RefersBelow}
use Rattle.ip_gen.specs.Phases.{phase_of}
use Rattle.ip_gen.proofs.Stepping.{closed_on, starts}
use Rattle.ip_gen.proofs.protocol.Core.start.Goals as goal

pub reached-requires-clause-below : goal.reached-requires-clause-below
reached-requires-clause-below c = subst RefersBelow (sym c.deref-2.ensures.value) c.self.invariant.0.below

-- the event as it was taken
begun : (c : goal.Joined-self-2) → CoreStep (record { records = c.self.inside.records.items; horizon = c.self.inside.horizon; phase = phase_of c.self.inside.phase }) (Event.Start c.args.commit)
    (record { records = c.self.inside.records.items; horizon = c.self.inside.horizon; phase = CorePhase.collecting c.args.commit c.in_ok-kept.kept.keys false })
begun c =
    let old : Core = record { records = c.self.inside.records.items; horizon = c.self.inside.horizon; phase = phase_of c.self.inside.phase } in
    starts old c.args.commit c.in_ok-kept.kept.keys (ap phase_of c.in-Idle.is) c.if-commit-self.false
    (subst (λ rs. HasCommit rs c.args.commit) c.deref.ensures.value (c.if-not-has_commit.ensures.0 refl))
    (subst (λ (rs : List CoreRecord). AreReached rs c.args.commit (end_of rs) c.in_ok-kept.kept.keys) c.deref-2.ensures.value c.in_ok-kept.ensures)

pub invariant_of-self : goal.invariant_of-self
invariant_of-self c = (closed_on _ _ (Event.Start c.args.commit) (begun c) c.self.invariant.0, c.self.invariant.1)

pub returns-clause-taken : goal.returns-clause-taken
returns-clause-taken c e =
    let new : Core = record { records = c.self.inside.records.items; horizon = c.self.inside.horizon; phase = CorePhase.collecting c.args.commit c.in_ok-kept.kept.keys false } in
    subst (λ (s : Core). CoreStep s (Event.Start c.args.commit) new) c.self.view_is (begun c)

pub returns-clause-closed : goal.returns-clause-closed
returns-clause-closed c = closed_on _ _ (Event.Start c.args.commit) (begun c) c.self.invariant.0
