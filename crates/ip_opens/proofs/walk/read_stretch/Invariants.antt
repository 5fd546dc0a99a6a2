use Rattle.std.proofs.Common.{◌≡◌, ◌-◌}
use Rattle.std.specs.Prelude.{IsTrue}
use Rattle.ip_ground.specs.Told.{NoFile, ChangesOnly}
use Rattle.ip_opens.specs.Walk.{Walks}
use Rattle.ip_opens.proofs.walk.read_stretch.Given as goal

abbrev pub invariant-loop-walk : goal.invariant-loop-walk
invariant-loop-walk g l =
    let ground = g.G.Ground in
    record {
      walks : Walks l.slot ground.tells (ground.told l.outside) l.space l.walk l.found;
      number : l.walk.number ≡ l.number;
      only : IsTrue ground.tells → ChangesOnly NoFile (ground.told l.initial.outside) (ground.told l.outside);
      counts : ground.counts_of l.outside ≡ ground.counts_of l.initial.outside;
    }

abbrev pub decreases-loop-walk : goal.decreases-loop-walk
decreases-loop-walk g l = l.walk.scan.to - l.walk.scan.next
