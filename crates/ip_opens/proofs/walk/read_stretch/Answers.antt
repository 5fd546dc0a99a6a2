use Rattle.std.proofs.Common.{◌≡◌, rules, refl, sym, ◌∙◌, subst, ℕ, ◌+◌}
use Rattle.std.specs.Prelude.{Err}
use Rattle.ip_ground.specs.Told.{NoFile}
use Rattle.ip_ground.proofs.Spans.{only_nowhere, only_on}
use Rattle.ip_space.proofs.Stayed.{readable_stays}
use Rattle.ip_opens.specs.Walk.{Filled}
use Rattle.ip_opens.proofs.RecordSteps.{begins_stretch, ends_stretch, within_stretches}
use Rattle.ip_opens.proofs.walk.read_stretch.Goals as goal

pub loop-walk-init : goal.loop-walk-init
loop-walk-init g c =
    let found = c.in-Some.ensures in
    record {
      walks = begins_stretch c.args.slot.now c.requires.slot c.args.space.now g.G.Ground.tells _ c.args.number c.args.found.now c.requires.filled c.in-Some.stretch (sym found.is) found.in_order found.inside c.scan.result c.scan.ensures;
      number = refl;
      only = λ told. only_nowhere _ NoFile;
      counts = refl;
    }

pub loop-walk-preserved : goal.loop-walk-preserved
loop-walk-preserved g c =
    let kept = c.loop-walk.invariant in
    let next = c.in_ok-take_next.ensures in
    record {
      walks = next.walks;
      number = next.same.0 ∙ kept.number;
      only = λ told. only_on _ _ _ NoFile (kept.only told) (next.only told);
      counts = next.counts ∙ kept.counts;
    }

pub returns-in_err-take_next-clause-damaged : goal.returns-in_err-take_next-clause-damaged
returns-in_err-take_next-clause-damaged g c told readable file at damaged =
    let fault = c.in_err-take_next.field-0.0 in
    let same : c.from_residual.result ≡ Err fault = search rules in
    let readable_then = readable_stays (g.G.Ground.told c.args.outside.now) (g.G.Ground.told c.loop-walk.outside) (c.loop-walk.invariant.only told) c.args.space.now readable in
    c.in_err-take_next.ensures.damaged told readable_then file at (sym same ∙ damaged)

pub returns-in_err-take_next-clause-only : goal.returns-in_err-take_next-clause-only
returns-in_err-take_next-clause-only g c told = only_on _ _ _ NoFile (c.loop-walk.invariant.only told) (c.take_next.ensures.only told)

pub returns-clause-filled : goal.returns-clause-filled
returns-clause-filled g c more =
    let next = c.in_ok-take_next.ensures in
    subst (λ (n : ℕ). Filled c.args.slot.now g.G.Ground.tells (g.G.Ground.told c.take_next.new.outside) c.args.space.now (n + 1) c.take_next.new.found) (next.same.0 ∙ c.loop-walk.invariant.number)
    (ends_stretch c.args.slot.now c.requires.slot c.args.space.now g.G.Ground.tells _ c.take_next.new.walk c.take_next.new.found next.walks (next.ends c.if-branch.false))

pub returns-clause-further : goal.returns-clause-further
returns-clause-further g c more = (within_stretches c.args.space.now c.args.number c.in-Some.stretch (sym c.in-Some.ensures.is), c.in-Some.ensures.countable)

pub returns-clause-only : goal.returns-clause-only
returns-clause-only g c told = only_on _ _ _ NoFile (c.loop-walk.invariant.only told) (c.in_ok-take_next.ensures.only told)
