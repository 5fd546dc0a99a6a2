-- How a collection is cancelled.
--     counted_cancel fault      it is the ground's
--     CancelReplies result P      the reply has this; a fault of the ground has none.      met_by_cancel result left      what was met
--     IsKilled c result end      how the child ended that was killed; None: the kill failed, and it may go on
--     CountsCancel result left old new      removals that failed are counted.      unswept_after result left s u      and then what was unswept is so still
--     CancelsCollecting tells result met store now old new      all that is promised of the call, but for the child and the ground's counts
--     Cancels r c result u left store old new      what it does to what a ground tells, and what the store holds then
use Rattle.std.specs.Prelude.{◌≡◌, ◌↔◌, ◌==◌, if◌then◌else◌, ℕ, ◌<◌, ◌≤◌, Bool, true, [], ◌∷◌, Option, Some, None, Result, Ok, Err, IsErrOf, IsOk, IsTrue, IfSome}
use Rattle.ip_ground.specs.declared.names.FileName.{FileName}
use Rattle.ip_ground.specs.Counts.{Counted, Noted}
use Rattle.ip_base.specs.declared.exit.Reaped.{Reaped}
use Rattle.ip_ground.specs.Counts.{CountsLeft, FileFault}
use Rattle.ip_ground.specs.Custody.{lent}
use Rattle.ip_ground.specs.Contents.{Image}
use Rattle.ip_ground.specs.Told.{Told, lending, IsForeign, IsSettledAs}
use Rattle.ip_spec.specs.declared.met.Met.{Met}
use Rattle.ip_spec.specs.declared.reply.Reply.{Reply}
use Rattle.ip_spec.specs.Repository.{Repository}
use Rattle.ip_image.specs.declared.slot.Slot.{Slot}
use Rattle.ip_image.specs.Headline.{RecoversTo}
use Rattle.ip_image.specs.Pending.{HasLive, crash_at, crash_now, NothingPending, AllFlushed, KeepsSpace}
use Rattle.ip_collects.specs.declared.cancelling.CancelFault.{CancelFault}
use Rattle.ip_collects.specs.declared.cancelling.Cancelled.{Cancelled}
use Rattle.ip_held.specs.declared.collection.Collection.{Collection}
use Rattle.ip_held.specs.declared.collection.Unswept.{Unswept}
use Rattle.ip_held.specs.declared.held.Held.{Held}
use Rattle.ip_held.specs.Answers.{met_nothing}
use Rattle.ip_collects.specs.CollectEvents.{cancel_events}
use Rattle.ip_collects.specs.Starting.{AnswersCall}
use Rattle.ip_held.specs.Clear.{KeepsClear, ClearsAll}
use Rattle.ip_held.specs.Fronts.{LeavesFront}
use Rattle.ip_held.specs.Slots.{KeepsSlots}
use Rattle.ip_held.specs.Tie.{IsTied}
use Rattle.ip_held.specs.Trees.{RecordsStay}
use Rattle.ip_spec.specs.declared.command.Command.TheVariants as Command
use Rattle.ip_spec.specs.declared.event.Event.TheVariants as Event
use Rattle.ip_held.specs.Held.{IsOf, Holds, image_records}
use Rattle.ip_held.specs.Sweeping.{AllBut, ChangesFor, IsSwept, KeepsFiles, swept_to}

abbrev pub CancelReplies : Result Cancelled CancelFault → (Reply → Type 0) → Type 0
CancelReplies (Ok Cancelled.Done) P = P Reply.Cancelled
CancelReplies (Ok Cancelled.Orphan) P = P Reply.CancelledOrphan
CancelReplies (Err CancelFault.Idle) P = P Reply.Idle
CancelReplies (Err CancelFault.Ground) P = Unit {0}

-- so many removals failed of the sweep
abbrev pub met_by_cancel : Result Cancelled CancelFault → ℕ → Met
met_by_cancel (Ok Cancelled.Done) left = record met_nothing { left = left }
met_by_cancel (Ok Cancelled.Orphan) left = record met_nothing { kill_failed = true }
met_by_cancel (Err fault) left = met_nothing

pub record IsKilled (c : Collection) (result : Result Cancelled CancelFault) (end : Option Reaped) : Type 0 where
  pub attempt : IfSome end (λ reaped. reaped.attempt ≡ c.job.attempt)
  pub orphan : (result ≡ Ok Cancelled.Orphan) ↔ (end ≡ None)

-- faults of removals do not end it
abbrev pub CountsCancel : Result Cancelled CancelFault → ℕ → Noted → Noted → Type 0
CountsCancel (Ok Cancelled.Done) left old new = CountsLeft left old new
CountsCancel (Ok Cancelled.Orphan) left old new = new ≡ old
CountsCancel (Err CancelFault.Idle) left old new = new ≡ old
CountsCancel (Err CancelFault.Ground) left old new = FileFault old new

abbrev pub unswept_after : Result Cancelled CancelFault → ℕ → Slot → Unswept → Unswept
unswept_after (Ok Cancelled.Done) left s u = if left == 0 then swept_to s else u
unswept_after (Ok Cancelled.Orphan) left s u = u
unswept_after (Err fault) left s u = u

-- The repository stays. Before it this was unswept.
pub record Cancels (r : Repository) (c : Collection) (result : Result Cancelled CancelFault) (u : Unswept) (left : ℕ) (store : Held) (old new : Told) : Type 0 where
  pub only : ChangesFor c.job.attempt (IsSwept store.slot u) old new
  pub files : KeepsFiles old new
  pub holds : IsOk result → Holds store new r
  -- the attempt is settled, so that no child changes its files from then on
  pub settled : result ≡ Ok Cancelled.Done → lending old c.job.attempt ≡ lent → (pair : Image) × IsSettledAs new c.job.attempt pair
  -- one that was settled before stays so, by what its files held then
  pub stays : (pair : Image) → IsSettledAs old c.job.attempt pair → IsSettledAs new c.job.attempt pair
  -- where no removal failed all is gone that a sweep may remove, but for files of attempts that others may still write
  pub gone : result ≡ Ok Cancelled.Done → left ≡ 0 → (file : FileName) → IsSwept store.slot u file → ¬ IsForeign new file → new.held file ≡ None
  -- and else all but so many
  pub all_but : result ≡ Ok Cancelled.Done → AllBut (IsSwept store.slot u) left new new
  pub slots : NothingPending old → KeepsSlots old new
  pub recovers : NothingPending old → (t : ℕ) → old.moment < t → t ≤ new.moment → RecoversTo (crash_at new t) r
  pub nothing_pending : NothingPending old → NothingPending new
  pub flushed : NothingPending old → AllFlushed (crash_now new)
  pub space : NothingPending old → (s : Slot) → HasLive s old.held → KeepsSpace s old new

pub record CancelsCollecting (tells : Bool) (result : Result Cancelled CancelFault) (met : Met) (store now : Held) (old new : Told) : Type 0 where
  pub answered : (r : Repository) → IsOf store r → CancelReplies result (AnswersCall r store.collection Command.Cancel met now)
  pub told : (left : ℕ) × (met ≡ met_by_cancel result left)
  pub runs : (store.collection ≡ None) ↔ IsErrOf result CancelFault.Idle
  pub unswept : now.unswept ≡ unswept_after result met.left store.slot store.unswept
  pub same : now ≡ record store { collection = None; unswept = now.unswept }
  pub any_moment : IsTrue tells → (r : Repository) → Holds store old r → (c : Collection) → store.collection ≡ Some c → Cancels r c result store.unswept met.left now old new
  pub stay : IsTrue tells → IsOk result → (r q : Repository) (held : Holds store old r) (still : Holds now new q) → RecordsStay (image_records held) (image_records still)
  -- What was cleared stays so, and behind a sweep that left nothing all is.
  pub clear : IsTrue tells → ¬ IsErrOf result CancelFault.Ground → (r : Repository) → Holds store old r → KeepsClear store now old new × ClearsAll (result ≡ Ok Cancelled.Done) met.left store now old new
  pub tied : IsTrue tells → ¬ IsErrOf result CancelFault.Ground → (r q : Repository) (held : Holds store old r) (still : Holds now new q) →
      IsTied store held.stands.standing.records now still.stands.standing.records (cancel_events result)
  -- where nothing was pending a crash at any moment, within a fault of the ground too, leaves a front of its events
  pub fronts : IsTrue tells → (r : Repository) (held : Holds store old r) → NothingPending old → LeavesFront store held.stands.standing.records (Event.Cancel ∷ Event.Sweep ∷ []) old new
