-- What a spawner counts, by counters that stay at their last value.
--     counted more count      a counter after one more, or none.      Counts      what a call counted
use Rattle.std.specs.Prelude.{◌≡◌, ℕ, Bool, if◌then◌else◌, ◌+◌, ◌-◌, ◌^◌, ◌≤◌, min, IsTrue}
use Rattle.ip_ground.specs.Counts.{Rose}
use Rattle.ip_spawn.specs.declared.spawner.SpawnCounts.{SpawnCounts}

-- a counter after one more, where there was one more
abbrev pub counted : Bool → ℕ → ℕ
counted more count = if more then min (count + 1) (2 ^ 64 - 1) else count

-- A call that said the child runs, that waited, that reaped it, or that failed. A count that stands at its last value stays there.
pub record Counts (ran waited reaped failed : Bool) (old new : SpawnCounts) : Type 0 where
  pub running : new.running ≡ counted ran old.running
  pub waits : new.waits ≡ counted waited old.waits
  pub reaps : new.reaps ≡ counted reaped old.reaps
  pub spawn_faults : new.spawn_faults ≡ counted failed old.spawn_faults
  -- none falls
  pub running_stays : old.running ≤ new.running
  pub waits_stay : old.waits ≤ new.waits
  pub reaps_stay : old.reaps ≤ new.reaps
  pub spawn_faults_stay : old.spawn_faults ≤ new.spawn_faults
  pub cause : IsTrue failed → Rose old.spawn_faults new.spawn_faults
