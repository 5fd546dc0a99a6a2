use Rattle.std.proofs.Common.{ap, sym, subst, ◌∙◌, refl, arith, rules}
use Rattle.ip_space.specs.SpaceView.{SpaceView, IsReadable}
use Rattle.ip_space.specs.Scanning.{IsCurrent}
use Rattle.ip_space.proofs.Answered.{shows_nothing}
use Rattle.ip_space.proofs.Stayed.{readable_before}
use Rattle.ip_keep.proofs.Goings.{goes_nowhere, goes_on, blames_later, blames_as, blamed_as, breaks_later, breaks_as}
use Rattle.ip_keep.proofs.keep.Keep.go_up.Goals as goal

pub loop-left-init : goal.loop-left-init
loop-left-init g c = record {
  goes = goes_nowhere g.G.Ground.tells _ c.args.self.now c.requires;
  along = search rules;
  current = λ t readable. shows_nothing _ _ _ _ (ap (λ s. s.ahead) c.scan-scan.ensures);
  looks = refl;
  most = omega arith;
  end = search rules;
  counts = refl;
}

pub loop-left-preserved : goal.loop-left-preserved
loop-left-preserved g c =
    let kept = c.loop-left.invariant in
    let next = c.in-Ok.ensures in
    let looks = next.looks in
    let were = kept.looks in
    let most = kept.most in
    record {
      goes = goes_on g.G.Ground.tells _ _ _ c.args.self.now c.loop-left.self c.look_up.new.self kept.goes next.goes;
      along = next.along;
      current = λ t readable.
          subst (λ (s : SpaceView). IsCurrent (g.G.Ground.told c.look_up.new.outside) s c.look_up.new.scan) (sym next.goes.work.space)
          (next.current t (readable_before _ _ (next.goes.only t) _ (subst (IsReadable (g.G.Ground.told c.look_up.new.outside)) next.goes.work.space readable)));
      looks = omega (arith, looks, were);
      most = omega (arith, most);
      end = kept.end ∙ ap (λ (s : SpaceView). s.layout.end) (sym next.goes.work.space);
      counts = next.counts ∙ kept.counts;
    }

pub returns-in-Err-clause-goes : goal.returns-in-Err-clause-goes
returns-in-Err-clause-goes g c = goes_on g.G.Ground.tells _ _ _ c.args.self.now c.loop-left.self c.look_up.new.self c.loop-left.invariant.goes c.look_up.ensures.goes

pub returns-in-Err-clause-undamaged : goal.returns-in-Err-clause-undamaged
returns-in-Err-clause-undamaged g c =
    blames_as g.G.Ground.tells _ c.args.self.now c.in-Err.fault (blames_later g.G.Ground.tells _ _ c.args.self.now c.loop-left.self _ c.loop-left.invariant.goes c.in-Err.ensures.undamaged)

pub returns-in-Err-clause-blames : goal.returns-in-Err-clause-blames
returns-in-Err-clause-blames g c = blamed_as {A = Unit {0}} c.look_up.new.self c.in-Err.fault c.in-Err.ensures.blames

pub returns-in-Err-clause-broken : goal.returns-in-Err-clause-broken
returns-in-Err-clause-broken g c =
    breaks_as {A = Unit {0}} g.G.Ground.tells _ c.args.self.now c.look_up.new.self c.in-Err.fault (breaks_later g.G.Ground.tells _ _ c.args.self.now c.loop-left.self c.look_up.new.self _ c.loop-left.invariant.goes c.in-Err.ensures.broken)
