use Rattle.std.proofs.Common.{◌≡◌, ◌+◌, ◌≤◌}
use Rattle.std.specs.Prelude.{IsTrue, Option, Ok}
use Rattle.ip_ground.specs.Told.{NoFile, ChangesOnly}
use Rattle.ip_spec.specs.declared.reply.Difference.{Difference}
use Rattle.ip_check.specs.declared.check.Stage.TheVariants as Stage
use Rattle.ip_check.specs.Checking.{looked_by}
use Rattle.ip_check.specs.Going.{Goes, HasStood, KeepsTrue}
use Rattle.ip_check.proofs.check.Check.compare_prefix.Given as goal

abbrev pub invariant-loop-place : goal.invariant-loop-place
invariant-loop-place g l =
    let ground = g.G.Ground in
    record {
      few : l.left ≤ l.most;
      goes : Goes l.most l.fn.self l.self;
      exact : looked_by l.self + l.left ≡ looked_by l.fn.self + l.most;
      found : l.self.stage ≡ Stage.Keeping → l.left ≡ 0;
      through : (told : Option Difference) → l.fn.self.stage ≡ Stage.Through told → l.self.stage ≡ Stage.Through told;
      keeps : IsTrue ground.tells → KeepsTrue {A = Unit {0}} (ground.told l.fn.outside) l.fn.self l.self (Ok tt);
      keep : l.self.keep ≡ l.fn.self.keep;
      stood : IsTrue ground.tells → HasStood (ground.told l.fn.outside) l.fn.self l.self;
      only : IsTrue ground.tells → ChangesOnly NoFile (ground.told l.fn.outside) (ground.told l.outside);
      counts : ground.counts_of l.outside ≡ ground.counts_of l.fn.outside;
    }

abbrev pub decreases-loop-place : goal.decreases-loop-place
decreases-loop-place g l = l.left
