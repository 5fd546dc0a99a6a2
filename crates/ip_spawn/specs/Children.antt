-- What a spawner tells of its children, and how each call goes on with it.
--     Start, Told      what it tells.      blank      nothing yet
--     held_after_start, told_after_start      behind a start.      held_after, told_after      behind a child's end, or none
--     end_seen, end_reaped, is_running result      what was answered of the child
use Rattle.std.specs.Prelude.{ℕ, Bool, true, false, List, [], ◌∷◌, ◌++◌, Option, Some, None, Result, Ok, Err}
use Rattle.ip_base.specs.declared.exit.Reaped.{Reaped}
use Rattle.ip_spawn.specs.declared.job.Job.{Job}
use Rattle.ip_spawn.specs.declared.spawner.Look.{Look}
use Rattle.ip_spawn.specs.declared.spawner.Look.TheVariants.{Running, Ended}
use Rattle.ip_spawn.specs.declared.spawner.SpawnFault.{SpawnFault}

-- a child that was started: the folder of its store, and its job
pub record Start : Type 0 where
  pub dir : List ℕ
  pub job : Job

pub record Told : Type 0 where
  -- the children that were started, in order
  pub started : List Start
  -- how each child ended that was reaped, in order
  pub reaped : List Reaped

-- nothing was started
abbrev pub blank : Told
blank = record { started = []; reaped = [] }

-- the child that is held after a start
abbrev pub held_after_start : Job → Result (Unit {0}) SpawnFault → Option ℕ
held_after_start job (Ok _) = Some job.attempt
held_after_start job (Err _) = None

abbrev pub told_after_start : List ℕ → Job → Result (Unit {0}) SpawnFault → Told → Told
told_after_start dir job (Ok _) told = record { started = told.started ++ record { dir = dir; job = job } ∷ []; reaped = told.reaped }
told_after_start dir job (Err _) told = told

-- how the child ended, by what was answered of it, if it did
abbrev pub end_seen : Result Look SpawnFault → Option Reaped
end_seen (Ok Running) = None
end_seen (Ok (Ended reaped)) = Some reaped
end_seen (Err _) = None

abbrev pub end_reaped : Result Reaped SpawnFault → Option Reaped
end_reaped (Ok reaped) = Some reaped
end_reaped (Err _) = None

abbrev pub is_running : Result Look SpawnFault → Bool
is_running (Ok Running) = true
is_running (Ok (Ended _)) = false
is_running (Err _) = false

-- the child that is held once it ended so, or not
abbrev pub held_after : Option Reaped → Option ℕ → Option ℕ
held_after (Some _) held = None
held_after None held = held

abbrev pub told_after : Option Reaped → Told → Told
told_after (Some reaped) told = record { started = told.started; reaped = told.reaped ++ reaped ∷ [] }
told_after None told = told
