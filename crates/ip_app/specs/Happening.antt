-- What a command met is what happened, as counts and the spawner tell it.
--     IsHeard phase reaped x      the child ended so: it was reaped in it, or had been
--     AsksBy command phase x      what it asked of the spawner
--     HappensBy command phase x, Happens phase x      so of an exchange that began in this phase, by its command, and by its line
--     AllHappen phase exchanges      of each of them
--     CutBy command phase x, HappensCut phase x      so of one that a fault cut short.      phase_after phase exchanges      the phase behind them
--     HappenIn is_cut_short exchanges      of all exchanges of a run
--     started_in dir exchanges      the children that were started in them, in the folder of this name.      ends_in exchanges      how those ended that were reaped
use Rattle.std.specs.Prelude.{◌≡◌, ◌≢◌, ◌⊎◌, ◌≤◌, Bool, true, false, List, [], ◌∷◌, ◌++◌, length, flat_map, Some, None, IsTrue, IsSome, Ok}
use Rattle.ip_ground.specs.Counts.{RoseBy}
use Rattle.ip_base.specs.declared.exit.Reaped.{Reaped}
use Rattle.ip_spawn.specs.Children.{Start}
use Rattle.ip_spawn.specs.Counts.{counted}
use Rattle.ip_spawn.specs.declared.job.Job.{Job}
use Rattle.ip_spec.specs.declared.command.Command.{Command}
use Rattle.ip_spec.specs.declared.met.Child.TheVariants as Child
use Rattle.ip_spec.specs.declared.reply.Reply.TheVariants as Reply
use Rattle.ip_spec.specs.Machine.{Phase, exit_kept}
use Rattle.ip_spec.specs.Path.{Bytes}
use Rattle.ip_spec.specs.Line.{IsLineOf}
use Rattle.ip_session.specs.Asking.{AsksNoGround, HasStarted, IsUnanswered, MayReap, starts_in}
use Rattle.ip_app.specs.Exchanges.{Exchange}

-- in an exchange that began in this phase
abbrev pub IsHeard : Phase → Reaped → Exchange → Type 0
IsHeard phase reaped x = ((exit_kept phase ≡ None) × (x.reaped ≡ reaped ∷ []) × (x.turn.after.spawner.reaps ≡ counted true x.turn.before.spawner.reaps)) ⊎ ((exit_kept phase ≡ Some reaped) × (x.reaped ≡ []) × (x.turn.after.spawner ≡ x.turn.before.spawner))

-- What it asked of the spawner, by what it met: of one that was cut short too.
pub record AsksBy (command : Command) (phase : Phase) (x : Exchange) : Type 0 where
  -- one is looked at by `look` alone, and waited for by `finish` alone, once; these two and `cancel` may reap it
  pub running : x.turn.met.child ≡ Child.Running → x.turn.after.spawner.running ≡ counted true x.turn.before.spawner.running
  pub not_running : x.turn.met.child ≢ Child.Running → x.turn.after.spawner.running ≡ x.turn.before.spawner.running
  pub waits : (x.turn.after.spawner.waits ≡ x.turn.before.spawner.waits) ⊎ (x.turn.after.spawner.waits ≡ counted true x.turn.before.spawner.waits)
  pub no_wait : command ≢ Command.Finish → x.turn.after.spawner.waits ≡ x.turn.before.spawner.waits
  pub waited : command ≡ Command.Finish → (x.reaped ≢ []) ⊎ (x.turn.met.child ≡ Child.Fault) → x.turn.after.spawner.waits ≡ counted true x.turn.before.spawner.waits
  pub reaps : (x.turn.after.spawner.reaps ≡ x.turn.before.spawner.reaps) ⊎ (x.turn.after.spawner.reaps ≡ counted true x.turn.before.spawner.reaps)
  pub none_reaped : ¬ MayReap command → (x.reaped ≡ []) × (x.turn.after.spawner.reaps ≡ x.turn.before.spawner.reaps)
  -- what is met of it is what the spawner answered now, or what was kept
  pub heard : (reaped : Reaped) → x.turn.met.child ≡ Child.Ended reaped → IsHeard phase reaped x
  -- a call of the spawner that failed is met, and is the one that failed
  pub unheard : x.turn.met.child ≡ Child.Fault → x.turn.after.spawner.spawn_faults ≡ counted true x.turn.before.spawner.spawn_faults
  pub start : IsTrue x.turn.met.start_failed → x.turn.after.spawner.spawn_faults ≡ counted true x.turn.before.spawner.spawn_faults
  pub kill : IsTrue x.turn.met.kill_failed → x.turn.after.spawner.spawn_faults ≡ counted true x.turn.before.spawner.spawn_faults
  pub no_fault : x.turn.met.child ≢ Child.Fault → x.turn.met.start_failed ≡ false → x.turn.met.kill_failed ≡ false → x.turn.after.spawner.spawn_faults ≡ x.turn.before.spawner.spawn_faults

pub record HappensBy (command : Command) (phase : Phase) (x : Exchange) : Type 0 where
  pub asks : AsksBy command phase x
  -- a child is started by `collect` alone, where it says so
  pub started : HasStarted (Ok x.reply) → (job : Job) × (x.started ≡ job ∷ [])
  pub none_started : ¬ HasStarted (Ok x.reply) → x.started ≡ []
  pub cancelled : x.reply ≡ Reply.Cancelled → (x.turn.after.spawner.reaps ≡ counted true x.turn.before.spawner.reaps) ⊎ IsSome (exit_kept phase)
  -- of the removals of a sweep so many failed at least as are told
  pub left : MayReap command → RoseBy x.turn.met.left x.turn.before.remove_faults x.turn.after.remove_faults
  -- and none failed in another command, or where none is told
  pub none_left : (MayReap command → x.turn.met.left ≡ 0) → x.turn.after.remove_faults ≡ x.turn.before.remove_faults

pub record Happens (phase : Phase) (x : Exchange) : Type 0 where
  pub command : (command : Command) → IsLineOf command x.line → HappensBy command phase x
  pub none : ((command : Command) → ¬ IsLineOf command x.line) → (x.started ≡ []) × (x.reaped ≡ []) × (x.turn.after.spawner ≡ x.turn.before.spawner) × (x.turn.after.remove_faults ≡ x.turn.before.remove_faults)

abbrev pub AllHappen : Phase → List Exchange → Type 0
AllHappen phase [] = Unit {0}
AllHappen phase (x ∷ exchanges) = Happens phase x × AllHappen x.after.phase exchanges

-- by its command: what it met is what happened, though its reply is not told; no start, kill or removal failed
pub record CutBy (command : Command) (phase : Phase) (x : Exchange) : Type 0 where
  pub asks : AsksBy command phase x
  pub none_failed : (x.turn.met.start_failed ≡ false) × (x.turn.met.kill_failed ≡ false)
  pub none_left : (x.turn.met.left ≡ 0) × (x.turn.after.remove_faults ≡ x.turn.before.remove_faults)
  -- nor was memory wanting, a limit reached, or a check gone on with: what is met so has an answer
  pub unanswered : IsUnanswered x.turn.met
  -- one that asks nothing of the ground is never cut short
  pub reached : ¬ AsksNoGround command

-- no child was started by a command that a fault cut short
pub record HappensCut (phase : Phase) (x : Exchange) : Type 0 where
  pub none_started : x.started ≡ []
  pub command : (command : Command) → IsLineOf command x.line → CutBy command phase x
  pub none : ((command : Command) → ¬ IsLineOf command x.line) → (x.reaped ≡ []) × (x.turn.after.spawner ≡ x.turn.before.spawner) × (x.turn.after.remove_faults ≡ x.turn.before.remove_faults)

abbrev pub phase_after : Phase → List Exchange → Phase
phase_after phase [] = phase
phase_after phase (x ∷ exchanges) = phase_after x.after.phase exchanges

pub record HappenIn (is_cut_short : Bool) (exchanges : List Exchange) : Type 0 where
  pub whole : List Exchange
  pub cut : List Exchange
  pub all : whole ++ cut ≡ exchanges
  pub one : length cut ≤ 1
  pub none : is_cut_short ≡ false → cut ≡ []
  pub some : is_cut_short ≡ true → exchanges ≢ [] → cut ≢ []
  pub happen : AllHappen Phase.Idle whole
  pub happen_cut : (x : Exchange) → cut ≡ x ∷ [] → HappensCut (phase_after Phase.Idle whole) x

abbrev pub started_in : Bytes → List Exchange → List Start
started_in dir = flat_map (λ x. starts_in dir x.started)

abbrev pub ends_in : List Exchange → List Reaped
ends_in = flat_map (λ x. x.reaped)
