-- Which files a command changes that may have to do with an attempt.
--     stays_only, stays_beside, stays_of      an attempt that was settled stays so.      changed_by      these files alone, whether there is an attempt or not.      nothing_by      none
--     none_durable      a command that is not durable did nothing that is.      keeps_nothing      no file of an attempt was written.      changed_so, touched_so      by a durable command.      nothing_only      nothing changed, by whatever line
--     still_space      while no file changes the bytes of the live slot's records stay, whatever a crash leaves.      nothing_space, slots_same      so where nothing changed, and so is which slot is live
use Rattle.std.proofs.Common.{Bool, ◌≡◌, ◌≢◌, ℕ, true, false, refl, sym, ◌∙◌, subst, Option, Some, None}
use Rattle.ip_ground.specs.declared.names.FileName.{FileName}
use Rattle.ip_ground.specs.declared.names.FileName.TheVariants.{Chunk, Mapping, Prefix}
use Rattle.ip_ground.specs.Contents.{Image}
use Rattle.ip_ground.specs.Told.{Told, NoFile, KeepsFile, ChangesOnly, IsSettledAs}
use Rattle.ip_ground.proofs.Spans.{lending_now, only_more}
use Rattle.ip_spec.specs.declared.command.Command.{Command}
use Rattle.ip_spec.specs.declared.reply.Reply.{Reply}
use Rattle.ip_spec.specs.Path.{Bytes}
use Rattle.ip_spec.specs.Repository.{Repository}
use Rattle.ip_image.specs.declared.slot.Slot.{Slot}
use Rattle.ip_image.specs.Pending.{HasLive, NothingPending, KeepsSpace}
use Rattle.ip_image.specs.Virtual.{chunk_of, chunk_byte}
use Rattle.ip_held.specs.declared.collection.Collection.{Collection}
use Rattle.ip_held.specs.declared.held.Held.{Held}
use Rattle.ip_publish.specs.Publishing.{MayChange}
use Rattle.ip_held.specs.Held.{Holds}
use Rattle.ip_held.specs.Slots.{KeepsSlots}
use Rattle.ip_held.specs.Sweeping.{ChangesFor, KeepsFiles}
use Rattle.ip_held.proofs.Apart.{for_only}
use Rattle.ip_collects.proofs.Ended.{ends_only}
use Rattle.ip_held.proofs.KeptFiles.{keeps_store}
use Rattle.ip_held.proofs.SlotLaws.{slots_only}
use Rattle.ip_session.specs.Session.{attempt_of, hears, is_durable, IsDurable, ChangesBy, ChangedBy, TouchedBy, OnlyIn, StaysSettled}

pub keeps_nothing : (a b : Told) → ChangesOnly NoFile a b → KeepsFiles a b
keeps_nothing a b only = keeps_store a b NoFile (λ file none. absurd none) only

-- ---- an attempt that was settled

pub stays_only : (o : Option Collection) (these : FileName → Type 0) (a b : Told) → ChangesOnly these a b → StaysSettled o a b
stays_only o these a b only c runs pair was = (was.0, lending_now a b only.goes c.job.attempt (only.lending c.job.attempt) ∙ was.1)

-- where another one alone changes
pub stays_beside : (o : Option Collection) (n : ℕ) (these : FileName → Type 0) (a b : Told) → ChangesFor n these a b → ((c : Collection) → o ≡ Some c → c.job.attempt ≢ n) → StaysSettled o a b
stays_beside o n these a b changes other c runs pair was = (was.0, lending_now a b changes.goes c.job.attempt (changes.lending c.job.attempt (other c runs)) ∙ was.1)

pub stays_of : (o : Option Collection) (c : Collection) (a b : Told) → o ≡ Some c → ((pair : Image) → IsSettledAs a c.job.attempt pair → IsSettledAs b c.job.attempt pair) → StaysSettled o a b
stays_of o c a b runs stays d again pair was =
    let same : c ≡ d = cc (sym runs ∙ again) in
    subst (λ (x : Collection). IsSettledAs a x.job.attempt pair → IsSettledAs b x.job.attempt pair) same (stays pair) was

-- ---- files

pub changed_by : (heard : Bool) (attempt : Option ℕ) (these : FileName → Type 0) (a b : Told) → ChangesOnly these a b → KeepsFiles a b → ChangesBy heard attempt these a b
changed_by false None these a b only files = only
changed_by true None these a b only files = only
changed_by false (Some n) these a b only files = for_only n these a b only files
changed_by true (Some n) these a b only files = ends_only n these a b only files

pub nothing_by : (heard : Bool) (attempt : Option ℕ) (these : FileName → Type 0) (a b : Told) → ChangesOnly NoFile a b → ChangesBy heard attempt these a b
nothing_by heard attempt these a b only = changed_by heard attempt these a b (only_more a b NoFile these (λ file none. absurd none) only) (keeps_nothing a b only)

-- by a command that is none
pub none_durable : (reply : Reply) (command : Command) → is_durable command ≡ false → ¬ IsDurable reply command
none_durable (Reply.Committed hash) (Command.Commit branch info) e h = absurd (cc e)
none_durable (Reply.Forward hash) (Command.Merge target branch info) e h = absurd (cc e)
none_durable (Reply.Merged hash) (Command.Merge target branch info) e h = absurd (cc e)
none_durable Reply.Accepted (Command.Branch name target) e h = absurd (cc e)
none_durable Reply.Accepted (Command.BranchRm name) e h = absurd (cc e)
none_durable (Reply.Started hash) (Command.Collect target) e h = absurd (cc e)
none_durable Reply.StartFault (Command.Collect target) e h = absurd (cc e)
none_durable _ _ e h = absurd h

pub changed_so : (store : Held) (image : Image) (command : Command) (reply : Reply) (file : FileName) → IsDurable reply command → MayChange image file → ChangedBy store image command reply file
changed_so store image Command.Look reply file done may = absurd (none_durable reply Command.Look refl done)
changed_so store image Command.Finish reply file done may = absurd (none_durable reply Command.Finish refl done)
changed_so store image Command.Cancel reply file done may = absurd (none_durable reply Command.Cancel refl done)
changed_so store image _ reply file done may = (done, may)

pub touched_so : (store : Held) (image : Image) (command : Command) (file : FileName) → is_durable command ≡ true → MayChange image file → TouchedBy store image command file
touched_so store image Command.Look file durable may = absurd (cc durable)
touched_so store image Command.Finish file durable may = absurd (cc durable)
touched_so store image Command.Cancel file durable may = absurd (cc durable)
touched_so store image _ file durable may = (durable, may)

pub nothing_only : (store : Held) (a b : Told) (line : Bytes) (reply : Reply) → ChangesOnly NoFile a b → OnlyIn store a b line reply
nothing_only store a b line reply only = record {
  command = λ command served. nothing_by (hears command) (attempt_of store command) (ChangedBy store a.held command reply) a b only;
  none = λ none. only;
}

pub still_space : (a b : Told) → ((file : FileName) → KeepsFile a b file) → NothingPending a → (u : Slot) → HasLive u a.held → KeepsSpace u a b
unfolding chunk_byte
still_space a b stays pending u has t after le image possible =
    record {
      chunks = λ at low high. pending.chunks u has at low high (image (Chunk (chunk_of u.chunk at))) ((stays (Chunk (chunk_of u.chunk at))).left (λ loose. loose) t (image (Chunk (chunk_of u.chunk at))) after le (possible (Chunk (chunk_of u.chunk at))));
      mapping = λ some. let pair = pending.pair u has some in pair.mapping (image (Mapping u.live)) ((stays (Mapping u.live)).left pair.firm_mapping t (image (Mapping u.live)) after le (possible (Mapping u.live)));
      prefix = λ some. let pair = pending.pair u has some in pair.prefix (image (Prefix u.live)) ((stays (Prefix u.live)).left pair.firm_prefix t (image (Prefix u.live)) after le (possible (Prefix u.live)));
    }

-- which slot is live then
pub slots_same : (store : Held) (r : Repository) (a b : Told) → Holds store a r → ChangesOnly NoFile a b → KeepsSlots a b
slots_same store r a b holds only = slots_only a b holds.kept NoFile (λ none. none) only

pub nothing_space : (a b : Told) → ChangesOnly NoFile a b → NothingPending a → (u : Slot) → HasLive u a.held → KeepsSpace u a b
nothing_space a b only = still_space a b (λ file. only.others file (λ none. none))
