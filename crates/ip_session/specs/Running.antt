-- What a session does that ran a command, whichever it is.
--     Runs told known rule old new s s' command result      from s to s', by this rule of merges, over a ground that told old and tells new, where this is so; of the reply, the state and the files where this is known
--     IsKnown known told s      that is known of what a session works over
--     Ran told known rule old new before after tells held dir was now m n s s' command result      and what was counted of the ground, and asked of a spawner that tells, told this before and now and holds that child now; children are started in this folder
use Rattle.std.specs.Prelude.{◌≡◌, ◌++◌, ℕ, Bool, List, Option, Result, IfOk, IfErr, IsTrue, OnErr}
use Rattle.ip_base.specs.declared.exit.Reaped.{Reaped}
use Rattle.ip_ground.specs.Counts.{Noted}
use Rattle.ip_ground.specs.Told.{Told}
use Rattle.ip_spawn.specs.Children as spawn
use Rattle.ip_spawn.specs.declared.job.Job.{Job}
use Rattle.ip_spawn.specs.declared.spawner.SpawnCounts.{SpawnCounts}
use Rattle.ip_spec.specs.Merge.{Rule}
use Rattle.ip_spec.specs.Path.{Bytes}
use Rattle.ip_spec.specs.Repository.{Repository}
use Rattle.ip_spec.specs.View.{View}
use Rattle.ip_spec.specs.declared.command.Command.{Command}
use Rattle.ip_spec.specs.declared.reply.Reply.{Reply}
use Rattle.ip_held.specs.Collecting.{child_of}
use Rattle.ip_held.specs.Held.{image_records}
use Rattle.ip_session.specs.declared.session.Session.{Session}
use Rattle.ip_session.specs.declared.session.SessionEnd.{SessionEnd}
use Rattle.ip_session.specs.Asking.{Asked, IsBoundedIn, QuietIfLong, starts_in}
use Rattle.ip_session.specs.Clearing.{ClearBy, SweepsBehind}
use Rattle.ip_session.specs.Placing.{PlacedBy}
use Rattle.ip_session.specs.Session.{IsServing, IsWorking, state_in, CountsBy, CutBy, EndsBy, GoesBy, MetDamage, StillBy}
use Rattle.ip_session.specs.Wanting.{Wants}

-- this is known, and the session works over what the ground tells
abbrev pub IsKnown : Type 0 → Told → Session → Type 0
IsKnown known told s = known × ((r : Repository) × (v : View) × IsWorking told s r v)

pub record Runs (told known : Type 0) (rule : Rule) (old new : Told) (s s' : Session) (command : Command) (result : Result Reply SessionEnd) : Type 0 where
  -- whatever is known, it serves on
  pub serving : IfOk result (λ reply. IsServing s')
  -- the reply, the next state and the files are as the machine has them
  pub goes : known → (r : Repository) (v : View) → IsWorking old s r v → IfOk result (GoesBy rule old new s s' r v command)
  -- its records lie behind those that there were
  pub placed : known → (r : Repository) (v : View) (here : IsWorking old s r v) → IfOk result (PlacedBy rule (image_records here.holds) s.store.held.slot s.store.held.unswept s'.store.held.slot (state_in s r v) v command)
  -- a look looks at so many records at most
  pub bounded : known → (r : Repository) (v : View) (here : IsWorking old s r v) → command ≡ Command.Look → IfOk result (IsBoundedIn here.holds.stands.standing.records s.store.held.collection)
  -- what was cleared away stays so, and behind a sweep that left nothing all that it was to remove is gone
  pub clear : told → (r : Repository) (v : View) → IsWorking old s r v → IfOk result (λ reply. ClearBy (SweepsBehind command reply) old new s s')
  -- a fault of the ground or of its files cut it short
  pub cut : known → (r : Repository) (v : View) → IsWorking old s r v → OnErr result (CutBy rule old new s s' r v command)
  -- the session has ended by it, or by files that others changed, which never comes where this is known
  pub cause : IfErr result (EndsBy (IsKnown known old s))
  -- behind damage nothing has changed but that the attempt of a child that was heard of is settled
  pub untouched : told → MetDamage result → StillBy s.store.held old new command

-- the child that is held then is that of the collection
pub record Ran (told known : Type 0) (rule : Rule) (old new : Told) (before after : Noted) (tells : Bool) (held : Option ℕ) (dir : Bytes) (was now : spawn.Told) (m n : SpawnCounts) (s s' : Session) (command : Command) (result : Result Reply SessionEnd) : Type 0 where
  pub runs : Runs told known rule old new s s' command result
  pub child : held ≡ child_of s'.store.held.collection
  pub asked : (jobs : List Job) × (ends : List Reaped) × (IsTrue tells → now ≡ record { started = was.started ++ starts_in dir jobs; reaped = was.reaped ++ ends }) × Asked s s' command result jobs ends m n
  pub quiet : IfOk result (QuietIfLong s'.met before after)
  pub memory : Wants s s' command result
  pub counts : CountsBy result command s'.met before after
