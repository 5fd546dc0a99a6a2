-- What a run leaves as it was of the files and of whose they are, and which slots it makes live.
--     OnlyReads x      its command changes no file, and has to do with no child.      LeavesFiles x      it changed none, by its reply
--     ReadsFiles old new      no file was changed or removed, and no attempt lent or settled; the control file may have been synced
--     KeepsDrawn phase old new      whose an attempt is that was drawn before, but for that of a collection in this phase
--     HasRisen slot now phase      since this slot was live no attempt was drawn again
--     IsWithin steps s u      so many durable steps at most lead from the one slot to the other.      SlotsSince since s steps told      so they do from a moment on, in whatever a crash leaves
use Rattle.std.specs.Prelude.{◌≡◌, ◌≢◌, ℕ, ◌+◌, ◌<◌, ◌≤◌, false}
use Rattle.ip_ground.specs.declared.names.FileName.{FileName}
use Rattle.ip_ground.specs.declared.names.FileName.TheVariants.{Control}
use Rattle.ip_ground.specs.Contents.{Image}
use Rattle.ip_ground.specs.Told.{Told, KeepsPast, KeepsFile, KeepsCustody, SyncsAtMost, IsPossible}
use Rattle.ip_spec.specs.declared.command.Command.{Command}
use Rattle.ip_spec.specs.Line.{IsLineOf}
use Rattle.ip_spec.specs.Machine.{Phase}
use Rattle.ip_image.specs.declared.slot.Slot.{Slot}
use Rattle.ip_image.specs.Pending.{HasLive}
use Rattle.ip_session.specs.Asking.{MayReap}
use Rattle.ip_session.specs.Clearing.{SweepsBehind}
use Rattle.ip_session.specs.Session.{is_durable, IsDurable}
use Rattle.ip_app.specs.Exchanges.{Exchange}

-- by its line alone, however it is answered; of a line that is no command too
abbrev pub OnlyReads : Exchange → Type 0
OnlyReads x = (command : Command) → IsLineOf command x.line → (is_durable command ≡ false) × (¬ MayReap command)

-- no durable step was made by it, nor a sweep
abbrev pub LeavesFiles : Exchange → Type 0
LeavesFiles x = (command : Command) → IsLineOf command x.line → (¬ IsDurable x.reply command) × (¬ SweepsBehind command x.reply)

-- At every moment since. A file that a child may change is what that makes of it.
pub record ReadsFiles (old new : Told) : Type 0 where
  pub goes : KeepsPast old new
  pub files : (file : FileName) → SyncsAtMost old new file
  pub others : (file : FileName) → file ≢ Control → KeepsFile old new file
  pub lending : (attempt : ℕ) → KeepsCustody old new attempt

-- The attempt of a collection is the one that was drawn last.
abbrev pub KeepsDrawn : Phase → Told → Told → Type 0
KeepsDrawn phase old new = (slot : Slot) → HasLive slot old.held → (n : ℕ) → n < slot.next_attempt → (phase ≢ Phase.Idle → n + 1 < slot.next_attempt) → KeepsCustody old new n

-- that of a collection was drawn since then
abbrev pub HasRisen : Slot → Slot → Phase → Type 0
HasRisen slot now phase = (slot.next_attempt ≤ now.next_attempt) × (phase ≢ Phase.Idle → slot.next_attempt < now.next_attempt)

-- each step's sequence is one more, and it draws one attempt at most
pub record IsWithin (steps : ℕ) (s u : Slot) : Type 0 where
  pub sequence : s.sequence ≤ u.sequence
  pub sequence_most : u.sequence ≤ s.sequence + steps
  pub drawn : s.next_attempt ≤ u.next_attempt
  pub drawn_most : u.next_attempt ≤ s.next_attempt + steps

abbrev pub SlotsSince : ℕ → Slot → ℕ → Told → Type 0
SlotsSince since s steps told = (t : ℕ) → since ≤ t → t ≤ told.moment → (image : Image) → IsPossible told t image → (u : Slot) → HasLive u image → IsWithin steps s u
