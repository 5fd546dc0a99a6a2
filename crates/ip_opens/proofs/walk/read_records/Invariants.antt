use Rattle.std.proofs.Common.{◌≡◌, ◌-◌, length}
use Rattle.std.specs.Prelude.{IsTrue}
use Rattle.ip_ground.specs.Told.{NoFile, ChangesOnly}
use Rattle.ip_space.specs.SpaceView.{stretches_of}
use Rattle.ip_opens.specs.Walk.{Filled}
use Rattle.ip_opens.proofs.walk.read_records.Given as goal

abbrev pub invariant-loop-found : goal.invariant-loop-found
invariant-loop-found g l =
    let ground = g.G.Ground in
    record {
      filled : Filled l.slot ground.tells (ground.told l.outside) l.space l.number l.found;
      only : IsTrue ground.tells → ChangesOnly NoFile (ground.told l.initial.outside) (ground.told l.outside);
      counts : ground.counts_of l.outside ≡ ground.counts_of l.initial.outside;
    }

abbrev pub decreases-loop-found : goal.decreases-loop-found
decreases-loop-found g l = length (stretches_of l.space) - l.number
