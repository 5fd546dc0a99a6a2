-- What a command leaves cleared away.
--     SweepsBehind command reply      a sweep was made behind a command with this reply
--     unswept_behind left slot u      what is unswept behind a sweep
--     ClearBy swept old new s s'      what was cleared stays so, and behind a sweep that left nothing all is
--     ClearIn old new s s' line reply      so of a line
use Rattle.std.specs.Prelude.{◌≡◌, ◌==◌, if◌then◌else◌, ℕ, IsSomeAnd}
use Rattle.ip_ground.specs.Contents.{Image}
use Rattle.ip_ground.specs.Told.{Told, IsSettledAs}
use Rattle.ip_spec.specs.declared.command.Command.{Command}
use Rattle.ip_spec.specs.declared.reply.Reply.{Reply}
use Rattle.ip_spec.specs.Line.{IsLineOf}
use Rattle.ip_spec.specs.Path.{Bytes}
use Rattle.ip_spec.specs.Step.{IsSwept}
use Rattle.ip_image.specs.declared.slot.Slot.{Slot}
use Rattle.ip_held.specs.declared.collection.Unswept.{Unswept}
use Rattle.ip_held.specs.Clear.{KeepsClear, ClearsAll}
use Rattle.ip_held.specs.Sweeping as sweeping
use Rattle.ip_held.specs.Sweeping.{AllBut, swept_to}
use Rattle.ip_session.specs.declared.session.Session.{Session}

abbrev pub SweepsBehind : Command → Reply → Type 0
SweepsBehind Command.Look reply = IsSwept reply
SweepsBehind Command.Finish reply = IsSwept reply
SweepsBehind Command.Cancel reply = IsSwept reply
SweepsBehind command reply = ⊥

-- where so many removals failed, of a store with this slot then, in which this was unswept
abbrev pub unswept_behind : ℕ → Slot → Unswept → Unswept
unswept_behind left slot u = if left == 0 then swept_to slot else u

pub record ClearBy (swept : Type 0) (old new : Told) (s s' : Session) : Type 0 where
  pub keeps : KeepsClear s.store.held s'.store.held old new
  pub all : ClearsAll swept s'.met.left s.store.held s'.store.held old new
  pub unswept : ¬ swept → s'.store.held.unswept ≡ s.store.held.unswept
  pub behind : swept → s'.store.held.unswept ≡ unswept_behind s'.met.left s'.store.held.slot s.store.held.unswept
  -- of what it was to remove all is gone but so many files
  pub all_but : swept → AllBut (sweeping.IsSwept s'.store.held.slot s.store.held.unswept) s'.met.left new new
  -- a sweep is made only where no child changes the attempt's files any more
  pub settled : swept → IsSomeAnd s.store.held.collection (λ c. (pair : Image) × IsSettledAs new c.job.attempt pair)

abbrev pub ClearIn : Told → Told → Session → Session → Bytes → Reply → Type 0
ClearIn old new s s' line reply = ClearBy ((command : Command) × IsLineOf command line × SweepsBehind command reply) old new s s'
