use Rattle.std.proofs.Common.{◌≡◌, rules, ◌∙◌, refl, sym, ap, subst}
use Rattle.std.specs.Prelude.{Err}
use Rattle.ip_ground.specs.Told.{NoFile}
use Rattle.ip_ground.proofs.Spans.{only_nowhere, only_on}
use Rattle.ip_space.proofs.Stayed.{readable_stays}
use Rattle.ip_opens.specs.declared.opening.OpenFault.{OpenFault}
use Rattle.ip_opens.specs.Walk.{Filled}
use Rattle.ip_opens.proofs.RecordSteps.{same_fault, nothing_filled, covers_all}
use Rattle.ip_opens.proofs.walk.read_records.Goals as goal

pub loop-found-init : goal.loop-found-init
loop-found-init g c = record {
  filled = nothing_filled c.args.slot.now c.requires.slot c.args.space.now g.G.Ground.tells _ c.new-found.result c.new-found.ensures;
  only = λ told. only_nowhere _ NoFile;
  counts = refl;
}

pub loop-found-preserved : goal.loop-found-preserved
loop-found-preserved g c =
    let kept = c.loop-found.invariant in
    let next = c.in_ok-read_stretch.ensures in
    record {
      filled = next.filled c.if-branch.true;
      only = λ told. only_on _ _ _ NoFile (kept.only told) (next.only told);
      counts = next.counts ∙ kept.counts;
    }

pub returns-in_err-read_stretch-clause-damaged : goal.returns-in_err-read_stretch-clause-damaged
returns-in_err-read_stretch-clause-damaged g c told readable file at damaged =
    let fault = c.in_err-read_stretch.field-0.0 in
    let same : c.from_residual.result ≡ Err fault = search rules in
    let readable_then = readable_stays (g.G.Ground.told c.args.outside.now) (g.G.Ground.told c.loop-found.outside) (c.loop-found.invariant.only told) c.args.space.now readable in
    c.in_err-read_stretch.ensures.damaged told readable_then file at (ap (λ (f : OpenFault). Err f) (same_fault fault (OpenFault.Damaged file at) (sym same ∙ damaged)))

pub returns-in_err-read_stretch-clause-only : goal.returns-in_err-read_stretch-clause-only
returns-in_err-read_stretch-clause-only g c told = only_on _ _ _ NoFile (c.loop-found.invariant.only told) (c.read_stretch.ensures.only told)

pub returns-clause-covers : goal.returns-clause-covers
returns-clause-covers g c =
    let ends = c.in_ok-read_stretch.ensures.ends c.if-branch.false in
    covers_all c.args.slot.now c.requires.slot c.args.space.now g.G.Ground.tells _ c.loop-found.number c.read_stretch.new.found ends.0
    (subst (λ o. Filled c.args.slot.now g.G.Ground.tells (g.G.Ground.told o) c.args.space.now c.loop-found.number c.read_stretch.new.found) (sym ends.2)
    (subst (Filled c.args.slot.now g.G.Ground.tells (g.G.Ground.told c.loop-found.outside) c.args.space.now c.loop-found.number) (sym ends.1) c.loop-found.invariant.filled))
