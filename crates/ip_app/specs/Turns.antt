-- The counts of turns.
--     AreCounts spawns      each is a number of its type
--     turn_counts noted spawns      what a turn tells of what a ground and a spawner counted.      turn_of counts spawns      so of the counts alone.      SpawnsLater earlier later      none of a spawner's counts fell
--     IsLater earlier later      no count fell
--     Follow first turns last      each turn begins with the counts that the one before it ended with; no fault of the ground was counted in any but the last
use Rattle.std.specs.Prelude.{◌≡◌, ◌≢◌, ◌-◌, ◌^◌, ◌≤◌, List, [], ◌∷◌}
use Rattle.ip_ground.specs.Counts.{Noted, counts_in}
use Rattle.ip_ground.specs.declared.names.GroundCounts.{GroundCounts}
use Rattle.ip_spawn.specs.declared.spawner.SpawnCounts.{SpawnCounts}
use Rattle.ip_image.specs.declared.counts.TurnCounts.{TurnCounts}
use Rattle.ip_app.specs.declared.turn_log.Turn.{Turn}

abbrev pub turn_of : GroundCounts → SpawnCounts → TurnCounts
turn_of counts spawns = record { file_faults = counts.file_faults; remove_faults = counts.remove_faults; spawner = spawns }

abbrev pub turn_counts : Noted → SpawnCounts → TurnCounts
turn_counts noted spawns = turn_of (counts_in noted) spawns

pub record AreCounts (spawns : SpawnCounts) : Type 0 where
  pub running : spawns.running ≤ 2 ^ 64 - 1
  pub waits : spawns.waits ≤ 2 ^ 64 - 1
  pub reaps : spawns.reaps ≤ 2 ^ 64 - 1
  pub spawn_faults : spawns.spawn_faults ≤ 2 ^ 64 - 1

pub record SpawnsLater (earlier later : SpawnCounts) : Type 0 where
  pub running : earlier.running ≤ later.running
  pub waits : earlier.waits ≤ later.waits
  pub reaps : earlier.reaps ≤ later.reaps
  pub spawn_faults : earlier.spawn_faults ≤ later.spawn_faults

pub record IsLater (earlier later : TurnCounts) : Type 0 where
  pub file : earlier.file_faults ≤ later.file_faults
  pub remove : earlier.remove_faults ≤ later.remove_faults
  pub spawner : SpawnsLater earlier.spawner later.spawner

abbrev pub Follow : TurnCounts → List Turn → TurnCounts → Type 0
Follow first [] last = last ≡ first
Follow first (turn ∷ turns) last = (turn.before ≡ first) × IsLater turn.before turn.after × (turns ≢ [] → turn.after.file_faults ≡ turn.before.file_faults) × Follow turn.after turns last
