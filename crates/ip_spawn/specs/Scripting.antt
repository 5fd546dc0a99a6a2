-- How a spawner in memory goes by its plans.
--     start_of started      a child that was started, as it is told
--     held_of, told_of script      what it tells as a spawner
--     fails_next script     whether the call that comes next is one that fails
--     GoesOn old new        one call more was made, of the same plans
--     next_held, less       the child of the next plan, and a child that has one look fewer left
--     LooksBy held result now      what a look gives by the plan of the child that is held
use Rattle.std.specs.Prelude.{◌≡◌, ℕ, true, ◌-◌, ◌<◌, map, length, Bool, ◌==◌, Option, Some, Result, Ok, Err, string_bytes, slice_get}
use Rattle.std.specs.List.{list_any}
use Rattle.std.specs.Option.{option_map}
use Rattle.ip_spawn.specs.Counts.{counted}
use Rattle.ip_spawn.specs.Children.{Start, Told}
use Rattle.ip_spawn.specs.declared.job.Job.{Job}
use Rattle.ip_spawn.specs.declared.scripted.Held.{Held}
use Rattle.ip_spawn.specs.declared.scripted.Scripted.{Scripted}
use Rattle.ip_spawn.specs.declared.scripted.Started.{Started}
use Rattle.ip_spawn.specs.declared.spawner.Look.{Look}
use Rattle.ip_spawn.specs.declared.spawner.Look.TheVariants.{Running, Ended}
use Rattle.ip_spawn.specs.declared.spawner.SpawnFault.{SpawnFault}

-- a child that was started, as it is told
abbrev pub start_of : Started → Start
start_of started = record { dir = string_bytes started.dir; job = started.job }

-- the attempt of the child that is held, if one is
abbrev pub held_of : Scripted → Option ℕ
held_of script = option_map (λ held. held.attempt) script.held

-- what was started, and how it ended
abbrev pub told_of : Scripted → Told
told_of script = record { started = map start_of script.started.items; reaped = script.reaped.items }

-- whether the call that comes next is one that fails
abbrev pub fails_next : Scripted → Bool
fails_next script = list_any (λ call. call == script.calls) script.fails.items

-- One call more was made, and what was planned is as it was.
pub record GoesOn (old new : Scripted) : Type 0 where
  pub plans : new.plans ≡ old.plans
  pub fails : new.fails ≡ old.fails
  pub calls : new.calls ≡ counted true old.calls

-- the child of the next plan, if one is left
abbrev pub next_held : Scripted → Job → Option Held
next_held script job = option_map (λ plan. record { attempt = job.attempt; plan = plan }) (slice_get script.plans.items (length script.started.items))

-- one look fewer is left
abbrev pub less : Held → Held
less held = record { attempt = held.attempt; plan = record { looks = held.plan.looks - 1; exit = held.plan.exit } }

-- It runs where a look is left, and has one fewer then. Else it ends as planned.
abbrev pub LooksBy : Held → Result Look SpawnFault → Option Held → Type 0
LooksBy held (Ok Running) now = (0 < held.plan.looks) × (now ≡ Some (less held))
LooksBy held (Ok (Ended reaped)) now = (held.plan.looks ≡ 0) × (reaped.exit ≡ held.plan.exit)
LooksBy held (Err _) now = now ≡ Some held
