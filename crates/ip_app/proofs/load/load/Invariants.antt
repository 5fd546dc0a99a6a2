use Rattle.std.proofs.Common.{◌≡◌, ℕ, ◌-◌, ◌^◌, ◌≤◌, Bool, IsTrue}
use Rattle.ip_merge.specs.Rules.{IsDecisive}
use Rattle.ip_spec.specs.Path.{Bytes}
use Rattle.ip_held.specs.Collecting.{child_of}
use Rattle.ip_app.specs.Loaded.{IsLoadRoom, Loaded}
use Rattle.ip_app.specs.Outside.{outside_of}
use Rattle.ip_app.specs.Turns.{AreCounts}
use Rattle.ip_app.proofs.load.load.Given as goal

abbrev pub invariant-loop-done : goal.invariant-loop-done
invariant-loop-done g l =
    record {
      roomy : IsLoadRoom l.room;
      removals : l.counts.remove_faults ≤ 2 ^ 64 - 1;
      counters : AreCounts (g.P.Spawner.counts_of l.spawner);
      child : g.P.Spawner.held l.spawner ≡ child_of l.session.store.held.collection;
      loaded : (source_tells : Bool) (left : Bytes) (read_faults : ℕ) →
          let told = outside_of l.fn.folder source_tells left read_faults g.G.Ground.tells g.G.Ground.told g.G.Ground.counts_of g.P.Spawner.tells g.P.Spawner.told g.P.Spawner.held g.P.Spawner.counts_of g.L.Log.tells g.L.Log.turns in
          (decisive : Bool) → (IsTrue decisive → IsDecisive (g.D.Decides.rule l.fn.rules)) → Loaded (g.D.Decides.rule l.fn.rules) decisive l.fn.seed l.state l.done (told l.fn.ground l.fn.spawner l.fn.log) (told l.ground l.spawner l.log) l.counts l.session l.room.summary;
    }
