use Rattle.std.proofs.Common.{◌≡◌, ◌-◌, ◌^◌, ◌≤◌, length, Bool, IsTrue}
use Rattle.ip_merge.specs.Rules.{IsDecisive}
use Rattle.ip_held.specs.Collecting.{child_of}
use Rattle.ip_app.specs.Outside.{outside}
use Rattle.ip_app.specs.Serving.{Served}
use Rattle.ip_app.specs.Rooms.{IsRoomy}
use Rattle.ip_app.specs.Pending.{pending}
use Rattle.ip_app.specs.Turns.{AreCounts}
use Rattle.ip_app.proofs.serve.serve.Given as goal

abbrev pub invariant-lines : goal.invariant-lines
invariant-lines g l =
    let told = outside l.fn.folder g.S.Source.tells g.S.Source.left g.S.Source.read_faults g.G.Ground.tells g.G.Ground.told g.G.Ground.counts_of g.P.Spawner.tells g.P.Spawner.told g.P.Spawner.held g.P.Spawner.counts_of g.L.Log.tells g.L.Log.turns in
    record {
      roomy : IsRoomy l.room;
      removals : l.counts.remove_faults ≤ 2 ^ 64 - 1;
      counters : AreCounts (g.P.Spawner.counts_of l.spawner);
      child : g.P.Spawner.held l.spawner ≡ child_of l.session.store.held.collection;
      served : (decisive : Bool) → (IsTrue decisive → IsDecisive (g.D.Decides.rule l.fn.rules)) → Served (g.D.Decides.rule l.fn.rules) decisive (told l.fn.source l.fn.ground l.fn.spawner l.fn.log) (told l.source l.ground l.spawner l.log) l.room.lines l.counts l.session;
    }

abbrev pub decreases-lines : goal.decreases-lines
decreases-lines g l = 2 ^ 62 - (l.room.lines.taken - length (pending l.room.lines))
