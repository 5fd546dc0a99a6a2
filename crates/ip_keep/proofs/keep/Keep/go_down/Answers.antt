use Rattle.std.proofs.Common.{◌∙◌, refl, arith}
use Rattle.ip_keep.proofs.Goings.{goes_nowhere, goes_on, blames_later, blames_as, blamed_as, breaks_later, breaks_as}
use Rattle.ip_keep.proofs.keep.Keep.go_down.Goals as goal

pub loop-left-init : goal.loop-left-init
loop-left-init g c = record {
  goes = goes_nowhere g.G.Ground.tells _ c.args.self.now c.requires.keep;
  looks = refl;
  most = omega arith;
  up = c.requires.up;
  counts = refl;
}

pub loop-left-preserved : goal.loop-left-preserved
loop-left-preserved g c =
    let kept = c.loop-left.invariant in
    let next = c.in-Ok.ensures in
    let looks = next.looks in
    let were = kept.looks in
    let most = kept.most in
    record {
      goes = goes_on g.G.Ground.tells _ _ _ c.args.self.now c.loop-left.self c.look_down.new.self kept.goes next.goes;
      looks = omega (arith, looks, were);
      most = omega (arith, most);
      up = λ some. next.up;
      counts = next.counts ∙ kept.counts;
    }

pub returns-in-Err-clause-goes : goal.returns-in-Err-clause-goes
returns-in-Err-clause-goes g c = goes_on g.G.Ground.tells _ _ _ c.args.self.now c.loop-left.self c.look_down.new.self c.loop-left.invariant.goes c.look_down.ensures.goes

pub returns-in-Err-clause-undamaged : goal.returns-in-Err-clause-undamaged
returns-in-Err-clause-undamaged g c =
    blames_as g.G.Ground.tells _ c.args.self.now c.in-Err.fault (blames_later g.G.Ground.tells _ _ c.args.self.now c.loop-left.self _ c.loop-left.invariant.goes c.in-Err.ensures.undamaged)

pub returns-in-Err-clause-blames : goal.returns-in-Err-clause-blames
returns-in-Err-clause-blames g c = blamed_as {A = Unit {0}} c.look_down.new.self c.in-Err.fault c.in-Err.ensures.blames

pub returns-in-Err-clause-broken : goal.returns-in-Err-clause-broken
returns-in-Err-clause-broken g c =
    breaks_as {A = Unit {0}} g.G.Ground.tells _ c.args.self.now c.look_down.new.self c.in-Err.fault (breaks_later g.G.Ground.tells _ _ c.args.self.now c.loop-left.self c.look_down.new.self _ c.loop-left.invariant.goes c.in-Err.ensures.broken)
