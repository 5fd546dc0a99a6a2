-- What a source, a ground, a spawner and a log tell at a moment of a call, whose words name a folder.
--     Outside, outside, outside_of      the record, and how the folder and the traits' ghost members make it, with a source or without one
--     but_bound before after      what was noted, but for the folder that is bound.      IsBound dir status old new      the folder of this name was asked for and no other, and is bound, or could not be; or nothing was done
--     Tells outside      the ground tells its content, and no child changes the live pair.      Knows decisive outside      and the rules of merges are known to be decisive
--     GoesOn old new      what no call changes: the folder, who tells, and that no count falls. A log may tell no more
--     IsUnasked old new      nothing was asked of the spawner
use Rattle.std.specs.Prelude.{ℕ, ◌≤◌, ◌≡◌, ◌⊎◌, Bool, Option, Some, None, IsTrue, List}
use Rattle.ip_ground.specs.Counts.{Noted, NoneFalls, binds}
use Rattle.ip_ground.specs.Told.{Told}
use Rattle.ip_spec.specs.Path.{Bytes}
use Rattle.ip_held.specs.Held.{OwnsLive}
use Rattle.ip_spawn.specs.Children as spawn
use Rattle.ip_spawn.specs.declared.spawner.SpawnCounts.{SpawnCounts}
use Rattle.ip_app.specs.declared.statuses.Status.{Status}
use Rattle.ip_app.specs.declared.turn_log.Turn.{Turn}
use Rattle.ip_app.specs.Turns.{SpawnsLater}

pub record Outside : Type 1 where
  -- the folder that the words of the call name
  pub dir : Bytes
  pub source_tells : Bool
  -- the bytes that the source has left
  pub left : Bytes
  pub read_faults : ℕ
  pub ground_tells : Bool
  pub told : Told
  pub counts : Noted
  -- what the spawner tells of its children, the attempt of the one that it holds, and what it counted
  pub spawner_tells : Bool
  pub spawned : spawn.Told
  pub held : Option ℕ
  pub spawns : SpawnCounts
  pub log_tells : Bool
  pub turns : List Turn

-- with what a source tells
abbrev pub outside_of : {G P L : Type 0} → Bytes → Bool → Bytes → ℕ → Bool → (G → Told) → (G → Noted) → Bool → (P → spawn.Told) → (P → Option ℕ) → (P → SpawnCounts) → (L → Bool) → (L → List Turn) → G → P → L → Outside
outside_of dir source_tells left read_faults ground_tells told_of counts_of spawner_tells spawned_of held_of spawns_of log_tells turns g p l = record {
  dir = dir;
  source_tells = source_tells;
  left = left;
  read_faults = read_faults;
  ground_tells = ground_tells;
  told = told_of g;
  counts = counts_of g;
  spawner_tells = spawner_tells;
  spawned = spawned_of p;
  held = held_of p;
  spawns = spawns_of p;
  log_tells = log_tells l;
  turns = turns l;
}

abbrev pub outside : {S G P L : Type 0} → Bytes → Bool → (S → Bytes) → (S → ℕ) → Bool → (G → Told) → (G → Noted) → Bool → (P → spawn.Told) → (P → Option ℕ) → (P → SpawnCounts) → (L → Bool) → (L → List Turn) → S → G → P → L → Outside
outside dir source_tells left read_faults ground_tells told_of counts_of spawner_tells spawned_of held_of spawns_of log_tells turns s g p l = outside_of dir source_tells (left s) (read_faults s) ground_tells told_of counts_of spawner_tells spawned_of held_of spawns_of log_tells turns g p l

abbrev pub Tells : Outside → Type 0
Tells outside = IsTrue outside.ground_tells × OwnsLive outside.told

abbrev pub Knows : (decisive : Bool) → Outside → Type 0
Knows decisive outside = Tells outside × IsTrue decisive

abbrev pub but_bound : Noted → Noted → Noted
but_bound before after = record before { bound = after.bound }

-- It is asked for once, and no other folder is, before or behind it. Where it could not be bound, a fault of the ground ended the call. Nothing was done where memory was wanting for the words.
abbrev pub IsBound : Bytes → Status → Noted → Noted → Type 0
IsBound dir status old new = (new.bound ≡ binds dir (Some dir) old.bound) ⊎ (((new.bound ≡ binds dir None old.bound) × (status ≡ Status.GroundFault)) ⊎ ((status ≡ Status.Memory) × (new ≡ old)))

pub record GoesOn (old new : Outside) : Type 0 where
  pub dir : new.dir ≡ old.dir
  pub source_tells : new.source_tells ≡ old.source_tells
  pub ground_tells : new.ground_tells ≡ old.ground_tells
  pub spawner_tells : new.spawner_tells ≡ old.spawner_tells
  pub log_tells : IsTrue new.log_tells → IsTrue old.log_tells
  pub read_faults : old.read_faults ≤ new.read_faults
  pub counts : NoneFalls old.counts new.counts
  pub spawns : SpawnsLater old.spawns new.spawns

pub record IsUnasked (old new : Outside) : Type 0 where
  pub spawned : new.spawned ≡ old.spawned
  pub held : new.held ≡ old.held
  pub spawns : new.spawns ≡ old.spawns
