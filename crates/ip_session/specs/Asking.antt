-- What a command asks of the spawner.
--     HasStarted result      the answer that a child was started
--     LooksBy child d c      how many records of it are looked at.      GoesOnBy child jobs before now      a collection that goes on is that of the child that was started, or the one that ran before
--     looked_in collection      how many records were looked at
--     looks      so many records a look looks at.      IsSlicedIn before now reply      behind one that is not through
--     IsBoundedIn records before reply      behind one that finds the pair valid
--     Asked s s' command result jobs ends before after      these jobs were started, and children reaped that ended so
--     starts_in dir jobs      their starts, each in the folder of this name
--     AskedIn s s' line result jobs ends before after      so by a line
--     LetsGo before after      what is counted while one is let go
--     AsksNoGround command      it asks nothing of the ground
--     HandlesNone command      it has to do with no child.      MayReap command      it may reap one.      TellsNone reply, MeetsNone met      no child is told by the reply, nor what came of one, and none was met.      IsUnanswered met      nothing was met that has an answer
--     HeardOf c kept reaped ends before after      how the child ended that was heard of: it was reaped now, or its exit was kept
--     QuietIfLong met old new reply      a long reply tells of no child and of no sweep, none was met, and no fault was counted before it
--     Spawns tells dir old new s s' line result before after      some were, in this folder, and the spawner tells it
use Rattle.std.specs.Prelude.{◌≡◌, ◌≢◌, ◌⊎◌, ◌+◌, ◌≤◌, ℕ, List, [], ◌∷◌, ◌++◌, map, Bool, true, false, Option, Some, None, IsSome, IfSome, IsSomeAnd, IsTrue, IsErr, IfOk, Result, Ok}
use Rattle.ip_ground.specs.Counts.{Noted}
use Rattle.ip_base.specs.declared.exit.Reaped.{Reaped}
use Rattle.ip_spawn.specs.Children.{Start, Told}
use Rattle.ip_spawn.specs.Counts.{counted}
use Rattle.ip_spawn.specs.declared.job.Job.{Job}
use Rattle.ip_spawn.specs.declared.spawner.SpawnCounts.{SpawnCounts}
use Rattle.ip_spec.specs.declared.command.Command.{Command}
use Rattle.ip_spec.specs.declared.met.Child.{Child}
use Rattle.ip_spec.specs.declared.met.Met.{Met}
use Rattle.ip_spec.specs.declared.reply.Reply.{Reply}
use Rattle.ip_spec.specs.Machine.{exit_kept}
use Rattle.ip_spec.specs.Path.{Bytes}
use Rattle.ip_spec.specs.Line.{IsLineOf}
use Rattle.ip_spec.specs.Step.{IsSwept}
use Rattle.ip_spec.specs.TreeAt.{Records}
use Rattle.ip_held.specs.declared.collection.Collection.{Collection}
use Rattle.ip_held.specs.Collecting.{phase_of}
use Rattle.ip_collects.specs.Concluding.{most_of}
use Rattle.ip_collects.specs.Finishing.{IsSliced, LooksWithin, looked_at}
use Rattle.ip_collects.specs.Starting.{IsJobAt}
use Rattle.ip_session.specs.declared.session.Session.{Session}
use Rattle.ip_session.specs.declared.session.SessionEnd.{SessionEnd}
use Rattle.ip_session.specs.Session.{IsLong}

abbrev pub HasStarted : Result Reply SessionEnd → Type 0
HasStarted (Ok (Reply.Started name)) = Unit {0}
HasStarted result = ⊥

abbrev pub AsksNoGround : Command → Type 0
AsksNoGround Command.Empty = Unit {0}
AsksNoGround (Command.Parent target) = Unit {0}
AsksNoGround Command.Branches = Unit {0}
AsksNoGround (Command.Log target) = Unit {0}
AsksNoGround (Command.Lcas one other) = Unit {0}
AsksNoGround (Command.Hash bytes) = Unit {0}
AsksNoGround Command.Stat = Unit {0}
AsksNoGround command = ⊥

abbrev pub HandlesNone : Command → Type 0
HandlesNone (Command.Collect target) = ⊥
HandlesNone Command.Look = ⊥
HandlesNone Command.Finish = ⊥
HandlesNone Command.Cancel = ⊥
HandlesNone command = Unit {0}

abbrev pub MayReap : Command → Type 0
MayReap Command.Look = Unit {0}
MayReap Command.Finish = Unit {0}
MayReap Command.Cancel = Unit {0}
MayReap command = ⊥

abbrev pub TellsNone : Reply → Type 0
TellsNone (Reply.Started name) = ⊥
TellsNone Reply.Cancelled = ⊥
TellsNone (Reply.Checking left) = ⊥
TellsNone (Reply.Collected floor left) = ⊥
TellsNone (Reply.RejectedExit exit) = ⊥
TellsNone (Reply.Rejected difference) = ⊥
TellsNone reply = Unit {0}

-- nor did a removal fail
abbrev pub MeetsNone : Met → Type 0
MeetsNone met = (met.start_failed ≡ false) × (met.kill_failed ≡ false) × (met.child ≡ Child.NotAsked) × (met.left ≡ 0)

-- no want of memory, no limit, and no check that is not through
abbrev pub IsUnanswered : Met → Type 0
IsUnanswered met = (met.refused ≡ false) × (met.short ≡ None) × (met.checking ≡ None)

-- so want of memory may be told in its place
abbrev pub QuietIfLong : Met → Noted → Noted → Reply → Type 0
QuietIfLong met old new reply = IsLong reply → (¬ HasStarted (Ok reply)) × MeetsNone met × (new ≡ old) × (¬ IsSwept reply)

-- by a command that began while the collection ran
abbrev pub HeardOf : Collection → Reaped → List Reaped → SpawnCounts → SpawnCounts → Type 0
HeardOf c reaped ends before after = (reaped.attempt ≡ c.job.attempt) × (((c.exit ≡ None) × (ends ≡ reaped ∷ []) × (after.reaps ≡ counted true before.reaps)) ⊎ ((c.exit ≡ Some reaped) × (ends ≡ []) × (after ≡ before)))

-- By what is met of its child: no record that was looked at is to be looked at again, and where it was not heard to have ended none was.
abbrev pub LooksBy : Child → Collection → Collection → Type 0
LooksBy child d c = (looked_at d ≤ looked_at c) × (((reaped : Reaped) → child ≢ Child.Ended reaped) → looked_at c ≡ looked_at d)

-- Of a child that was started nothing was looked at. Else it has the same commit and the same job, and an exit that was kept is so still.
abbrev pub GoesOnBy : Child → List Job → Option Collection → Option Collection → Type 0
GoesOnBy child jobs before now = IfSome now (λ c. ((jobs ≡ c.job ∷ []) × (c.check ≡ None)) ⊎ ((jobs ≡ []) × IsSomeAnd before (λ d. (c.commit ≡ d.commit) × (c.job ≡ d.job) × (c.exit ≡ None → d.exit ≡ None) × LooksBy child d c)))

-- how many records were looked at
abbrev pub looked_in : Option Collection → ℕ
looked_in None = 0
looked_in (Some c) = looked_at c

-- so many records a look looks at, at most
abbrev pub looks : ℕ
looks = most_of false

-- The check is not through: it looked at so many records more, and so many bytes are left.
abbrev pub IsSlicedIn : Option Collection → Option Collection → Reply → Type 0
IsSlicedIn before now (Reply.Checking left) = IsSomeAnd before (λ c. IsSliced looks c left now)
IsSlicedIn before now reply = Unit {0}

-- A look that finds the pair valid has looked at no more records than any: all looks of the check are not more than these and those before.
abbrev pub IsBoundedIn : Records → Option Collection → Reply → Type 0
IsBoundedIn records before (Reply.Collected floor left) = IsSomeAnd before (LooksWithin looks records)
IsBoundedIn records before (Reply.Limit limit) = IsSomeAnd before (LooksWithin looks records)
IsBoundedIn records before reply = Unit {0}

-- A child is started by `collect` alone, where it says so. One is looked at by `look` alone, and waited for by `finish` alone; these two and `cancel` may reap it.
pub record Asked (s s' : Session) (command : Command) (result : Result Reply SessionEnd) (jobs : List Job) (ends : List Reaped) (before after : SpawnCounts) : Type 0 where
  -- the job is that of the collection that goes on
  pub started : HasStarted result → IsSomeAnd s'.store.held.collection (λ c. (jobs ≡ c.job ∷ []) × (c.exit ≡ None) × IsJobAt s.store.held c.commit s'.store.held.slot c.job)
  pub none_started : ¬ HasStarted result → jobs ≡ []
  pub goes_on : IfOk result (λ reply. GoesOnBy s'.met.child jobs s.store.held.collection s'.store.held.collection)
  pub sliced : IfOk result (IsSlicedIn s.store.held.collection s'.store.held.collection)
  -- a look looks at no more records than so many
  pub few : command ≡ Command.Look → IfOk result (λ reply. looked_in s'.store.held.collection ≤ looked_in s.store.held.collection + looks)
  -- it was seen to run where that is met, and else not
  pub running : s'.met.child ≡ Child.Running → after.running ≡ counted true before.running
  pub not_running : s'.met.child ≢ Child.Running → after.running ≡ before.running
  -- a finish waits once at most, and once where it reaps one, or could not
  pub waits : (after.waits ≡ before.waits) ⊎ (after.waits ≡ counted true before.waits)
  pub no_wait : command ≢ Command.Finish → after.waits ≡ before.waits
  pub waited : command ≡ Command.Finish → (ends ≢ []) ⊎ (s'.met.child ≡ Child.Fault) → after.waits ≡ counted true before.waits
  pub reaps : (after.reaps ≡ before.reaps) ⊎ (after.reaps ≡ counted true before.reaps)
  pub none_reaped : ¬ MayReap command → (ends ≡ []) × (after.reaps ≡ before.reaps)
  -- what is met of it is what the spawner answered now, or what was kept
  pub heard : (reaped : Reaped) → s'.met.child ≡ Child.Ended reaped → IsSomeAnd s.store.held.collection (λ c. HeardOf c reaped ends before after)
  -- a kill reaps, and a child that had been reaped needs none
  pub cancelled : result ≡ Ok Reply.Cancelled → (after.reaps ≡ counted true before.reaps) ⊎ IsSome (exit_kept (phase_of s.store.held.collection))
  -- a call that failed is met, and is the one that failed
  pub unheard : s'.met.child ≡ Child.Fault → after.spawn_faults ≡ counted true before.spawn_faults
  pub start : IsTrue s'.met.start_failed → after.spawn_faults ≡ counted true before.spawn_faults
  pub kill : IsTrue s'.met.kill_failed → after.spawn_faults ≡ counted true before.spawn_faults
  pub no_fault : s'.met.child ≢ Child.Fault → s'.met.start_failed ≡ false → s'.met.kill_failed ≡ false → after.spawn_faults ≡ before.spawn_faults
  -- of one that was cut short no start and no kill failed, and no removal
  pub cut : IsErr result → (s'.met.start_failed ≡ false) × (s'.met.kill_failed ≡ false) × (s'.met.left ≡ 0)
  -- nor is anything met that has an answer
  pub unanswered : IsErr result → IsUnanswered s'.met
  -- and it asks the ground for something
  pub reached : IsErr result → ¬ AsksNoGround command

-- a line that is no command asks nothing
pub record AskedIn (s s' : Session) (line : Bytes) (result : Result Reply SessionEnd) (jobs : List Job) (ends : List Reaped) (before after : SpawnCounts) : Type 0 where
  pub command : (command : Command) → IsLineOf command line → Asked s s' command result jobs ends before after
  pub none : ((command : Command) → ¬ IsLineOf command line) → (jobs ≡ []) × (ends ≡ []) × (after ≡ before)
  -- whichever line it is
  pub goes_on : IfOk result (λ reply. GoesOnBy s'.met.child jobs s.store.held.collection s'.store.held.collection)
  pub sliced : IfOk result (IsSlicedIn s.store.held.collection s'.store.held.collection)

abbrev pub starts_in : Bytes → List Job → List Start
starts_in dir jobs = map (λ job. record { dir = dir; job = job }) jobs

pub record Spawns (tells : Bool) (dir : Bytes) (old new : Told) (s s' : Session) (line : Bytes) (result : Result Reply SessionEnd) (before after : SpawnCounts) : Type 0 where
  pub jobs : List Job
  pub ends : List Reaped
  pub told : IsTrue tells → new ≡ record { started = old.started ++ starts_in dir jobs; reaped = old.reaped ++ ends }
  pub asked : AskedIn s s' line result jobs ends before after

-- no child is looked at, waited for or started, and one is killed at most
pub record LetsGo (before after : SpawnCounts) : Type 0 where
  pub running : after.running ≡ before.running
  pub waits : after.waits ≡ before.waits
  pub reaps : (after.reaps ≡ before.reaps) ⊎ (after.reaps ≡ counted true before.reaps)
  pub spawn_faults : (after.spawn_faults ≡ before.spawn_faults) ⊎ (after.spawn_faults ≡ counted true before.spawn_faults)
