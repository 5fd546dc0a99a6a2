-- How a collection is finished.
--     FaultReplies fault P, LookReplies result P      the reply has this; a fault of the ground, or of the files, has none
--     met_by_finish child result left      what was met, where this was heard of the child.      child_seen, child_reaped answer      what was heard
--     difference_in result, conditions_by met result      with the difference that is told
--     TurnsBy s command met reply s'      the reply and the next state are the machine's
--     Concludes r running command met store reply      so whatever the work is, and the tables are the next repository's
--     HasAnswer result      it is no fault of the ground or of its files.      IsUndamaged result      it is none of the files.      IsOver result      no collection runs any more.      IsAccepted result      the pair was found to be valid.      IsSweptBehind result      a sweep follows
--     swapped_slot s u c length rows      the slot of the swap
--     looked_of check, looked_at c      how many records were looked at.      LooksWithin most records c      all looks of the check are no more than these and those before.      LooksOn most c check      no fewer were made than before, and at most so many more.      KeepsCollection most c reaped now      it is the same; how its child ended is kept, and its check
--     IsSliced most c left now      a check that is not through, behind a slice of it.      Slices most c result now      so it is where an answer says so.      fault_by fault      a fault of the check
--     CountsFinish result left old new      removals that failed are counted, and damage that was found.      unswept_by result left s u      what is unswept then
--     Judges records c met told      the difference is that of the settled pair.      WorksStay held now      works are lawful, or given up
--     FinishesAs r after c result u left store old new      what it does to what a ground tells, and what the store holds then
--     FinishesBy records r c command result u said store old new      and that it is the machine's
use Rattle.std.specs.Prelude.{◌≡◌, ◌≢◌, ◌⊎◌, ◌==◌, if◌then◌else◌, ℕ, ◌+◌, ◌<◌, ◌≤◌, Bool, true, false, Option, Some, None, Result, Ok, Err, IsSomeAnd}
use Rattle.ip_base.specs.declared.limit.TheConstants.{OFFSET_MAX}
use Rattle.ip_base.specs.declared.limit.Limit.{Limit}
use Rattle.ip_ground.specs.declared.names.FileName.{FileName}
use Rattle.ip_ground.specs.declared.names.FileName.TheVariants.{Control, Prefix, Mapping}
use Rattle.ip_base.specs.declared.exit.Reaped.{Reaped}
use Rattle.ip_ground.specs.Contents.{Image}
use Rattle.ip_ground.specs.Counts.{Noted, CountsLeft, DamageFound, FileFault}
use Rattle.ip_ground.specs.Told.{Told, IsForeign, IsSettledAs}
use Rattle.ip_spawn.specs.declared.spawner.Look.{Look}
use Rattle.ip_spawn.specs.declared.spawner.SpawnFault.{SpawnFault}
use Rattle.ip_spec.specs.declared.command.Command.{Command}
use Rattle.ip_spec.specs.declared.met.Child.{Child}
use Rattle.ip_spec.specs.declared.met.Met.{Met}
use Rattle.ip_spec.specs.declared.reply.Difference.{Difference}
use Rattle.ip_spec.specs.declared.reply.Reply.{Reply}
use Rattle.ip_spec.specs.Machine as Machine
use Rattle.ip_spec.specs.Machine.{State, Conditions, empty_work}
use Rattle.ip_spec.specs.Repository.{Repository}
use Rattle.ip_spec.specs.Step.{IsMet, turned}
use Rattle.ip_spec.specs.TreeAt.{Records}
use Rattle.ip_spec.specs.View.{View}
use Rattle.ip_image.specs.declared.slot.Slot.{Slot}
use Rattle.ip_check.specs.declared.fault.CheckFault.{CheckFault}
use Rattle.ip_check.specs.CheckView.{CheckView}
use Rattle.ip_check.specs.Checking.{LooksAtAll, looked_by}
use Rattle.ip_check.specs.Going.{IsOpen}
use Rattle.ip_image.specs.Collected.{remaining}
use Rattle.ip_image.specs.Collection.{IsJudged, IsKept as AreKept}
use Rattle.ip_image.specs.Headline.{RecoversTo, IsAtomic}
use Rattle.ip_image.specs.Pending.{crash_now, NothingPending, AllFlushed}
use Rattle.ip_held.specs.declared.collection.Collection.{Collection}
use Rattle.ip_held.specs.declared.collection.Unswept.{Unswept}
use Rattle.ip_collects.specs.declared.finishing.FinishFault.{FinishFault}
use Rattle.ip_collects.specs.declared.finishing.Looked.{Looked}
use Rattle.ip_collects.specs.declared.finishing.Rejection.{Rejection}
use Rattle.ip_held.specs.declared.held.Held.{Held}
use Rattle.ip_held.specs.declared.work.Work.{Work}
use Rattle.ip_held.specs.Collecting.{phase_of, until}
use Rattle.ip_held.specs.StandsBy.{LeavesSwapped}
use Rattle.ip_held.specs.Held.{IsOf, Holds, image_records}
use Rattle.ip_held.specs.Slots.{KeepsSlots}
use Rattle.ip_held.specs.Sweeping.{AllBut, EndsFor, IsSwept, KeepsFiles, swept_to}
use Rattle.ip_held.specs.Work.{IsLawful, state_at}

-- ---- replies

abbrev pub FaultReplies : FinishFault → (Reply → Type 0) → Type 0
FaultReplies FinishFault.Idle P = P Reply.Idle
FaultReplies FinishFault.Wait P = P Reply.WaitFault
FaultReplies (FinishFault.Rejected (Rejection.Exit exit)) P = P (Reply.RejectedExit exit)
FaultReplies (FinishFault.Rejected (Rejection.Differs difference)) P = P (Reply.Rejected difference)
FaultReplies (FinishFault.Limit limit) P = P (Reply.Limit limit)
FaultReplies FinishFault.Memory P = P Reply.Memory
FaultReplies FinishFault.Ground P = Unit {0}
FaultReplies (FinishFault.Damaged at) P = Unit {0}

abbrev pub LookReplies : Result Looked FinishFault → (Reply → Type 0) → Type 0
LookReplies (Ok Looked.Running) P = P Reply.Running
LookReplies (Ok (Looked.Checking left)) P = P (Reply.Checking left)
LookReplies (Ok (Looked.Collected collected)) P = P (Reply.Collected collected.floor collected.left)
LookReplies (Err fault) P = FaultReplies fault P

-- a fault of the check, as one of the call
abbrev pub fault_by : CheckFault → FinishFault
fault_by CheckFault.Ground = FinishFault.Ground
fault_by (CheckFault.Damaged at) = FinishFault.Damaged at
fault_by CheckFault.Memory = FinishFault.Memory

-- ---- what was met

abbrev pub child_seen : Result Look SpawnFault → Child
child_seen (Ok Look.Running) = Child.Running
child_seen (Ok (Look.Ended reaped)) = Child.Ended reaped
child_seen (Err fault) = Child.Fault

abbrev pub child_reaped : Result Reaped SpawnFault → Child
child_reaped (Ok reaped) = Child.Ended reaped
child_reaped (Err fault) = Child.Fault

abbrev pub checking_in : Result Looked FinishFault → Option ℕ
checking_in (Ok (Looked.Checking left)) = Some left
checking_in result = None

abbrev pub short_in : Result Looked FinishFault → Option Limit
short_in (Err (FinishFault.Limit limit)) = Some limit
short_in result = None

abbrev pub refused_in : Result Looked FinishFault → Bool
refused_in (Err FinishFault.Memory) = true
refused_in result = false

-- so many removals failed
abbrev pub met_by_finish : Child → Result Looked FinishFault → ℕ → Met
met_by_finish child result left = record { child = child; checking = checking_in result; start_failed = false; kill_failed = false; left = left; short = short_in result; refused = refused_in result }

-- none, but where it is what the answer tells
abbrev pub difference_in : Result Looked FinishFault → Option Difference
difference_in (Err (FinishFault.Rejected (Rejection.Differs difference))) = Some difference
difference_in result = None

abbrev pub conditions_by : Met → Result Looked FinishFault → Conditions
conditions_by met result = record { told = met; difference = difference_in result }

-- ---- answers

abbrev pub TurnsBy : State → Command → Conditions → Reply → State → Type 0
TurnsBy s command met reply s' = IsMet s command met reply × (turned s command met ≡ (reply, s'))

pub record Concludes (r : Repository) (running : Option Collection) (command : Command) (met : Conditions) (store : Held) (reply : Reply) : Type 0 where
  pub after : Repository
  pub turns : (work : Machine.Work) → TurnsBy (state_at r (phase_of running) work) command met reply (state_at after (phase_of store.collection) work)
  pub tables : IsOf store after

abbrev pub HasAnswer : Result Looked FinishFault → Type 0
HasAnswer (Err FinishFault.Ground) = ⊥
HasAnswer (Err (FinishFault.Damaged at)) = ⊥
HasAnswer result = Unit {0}

abbrev pub IsUndamaged : {A : Type 0} → Result A FinishFault → Type 0
IsUndamaged (Err (FinishFault.Damaged at)) = ⊥
IsUndamaged result = Unit {0}

abbrev pub IsCollected : Result Looked FinishFault → Type 0
IsCollected (Ok (Looked.Collected collected)) = Unit {0}
IsCollected result = ⊥

-- the pair was found to be valid
abbrev pub IsAccepted : Result Looked FinishFault → Type 0
IsAccepted (Ok (Looked.Collected collected)) = Unit {0}
IsAccepted (Err (FinishFault.Limit limit)) = Unit {0}
IsAccepted result = ⊥

-- a sweep follows
abbrev pub IsSweptBehind : Result Looked FinishFault → Type 0
IsSweptBehind (Ok (Looked.Collected collected)) = Unit {0}
IsSweptBehind (Err (FinishFault.Rejected rejection)) = Unit {0}
IsSweptBehind result = ⊥

-- nothing was heard of the child's end
abbrev pub IsQuiet : Result Looked FinishFault → Type 0
IsQuiet (Ok Looked.Running) = Unit {0}
IsQuiet (Err FinishFault.Idle) = Unit {0}
IsQuiet (Err FinishFault.Wait) = Unit {0}
IsQuiet result = ⊥

-- the check is not through
abbrev pub IsChecking : Result Looked FinishFault → Type 0
IsChecking (Ok (Looked.Checking left)) = Unit {0}
IsChecking result = ⊥

-- a `finish` waits, and makes the whole check
abbrev pub IsAsked : Command → Result Looked FinishFault → Type 0
IsAsked Command.Look result = Unit {0}
IsAsked Command.Finish result = (result ≢ Ok Looked.Running) × (¬ IsChecking result)
IsAsked command result = ⊥

-- no collection runs any more
abbrev pub IsOver : Result Looked FinishFault → Type 0
IsOver (Ok (Looked.Collected collected)) = Unit {0}
IsOver (Err (FinishFault.Rejected rejection)) = Unit {0}
IsOver (Err (FinishFault.Limit limit)) = Unit {0}
IsOver result = ⊥

-- the check is not through, or memory was wanted
abbrev pub IsKept : Result Looked FinishFault → Type 0
IsKept (Ok (Looked.Checking left)) = Unit {0}
IsKept (Err FinishFault.Memory) = Unit {0}
IsKept result = ⊥

-- ---- over any ground

-- It says what is unswept so far; how many bytes the prefix has, and how many rows the mapping, are those of the pair.
abbrev pub swapped_slot : Slot → Unswept → Collection → ℕ → ℕ → Slot
swapped_slot s u c length rows = record s { sequence = s.sequence + 1; horizon = c.job.horizon; floor = c.commit; live = c.job.attempt; prefix_len = length; rows = rows; first_chunk = u.chunk; first_attempt = u.attempt }

abbrev pub SlotBy : Result Looked FinishFault → Collection → Held → Slot → Type 0
SlotBy (Ok (Looked.Collected collected)) c store slot = (length rows : ℕ) × (slot ≡ swapped_slot store.slot store.unswept c length rows)
SlotBy result c store slot = slot ≡ store.slot

-- how many records were looked at, none where no check is kept
abbrev pub looked_of : Option CheckView → ℕ
looked_of None = 0
looked_of (Some check) = looked_by check

abbrev pub looked_at : Collection → ℕ
looked_at c = looked_of c.check

-- all looks of the check are no more than were made before, and these in this call
abbrev pub LooksWithin : ℕ → Records → Collection → Type 0
LooksWithin most records c = LooksAtAll (until c.job.end records) c.job (looked_at c + most)

-- no record that was looked at is to be looked at again, and at most so many more were looked at
abbrev pub LooksOn : ℕ → Collection → Option CheckView → Type 0
LooksOn most c check = (looked_at c ≤ looked_of check) × (looked_of check ≤ looked_at c + most)

pub record KeepsCollection (most : ℕ) (c : Collection) (reaped : Reaped) (now : Option Collection) : Type 0 where
  pub same : Collection
  pub is : now ≡ Some same
  pub commit : same.commit ≡ c.commit
  pub job : same.job ≡ c.job
  pub exit : same.exit ≡ Some reaped
  pub looked : LooksOn most c same.check

-- It is not through: so many records were looked at in this call, and so many bytes are left.
abbrev pub IsSliced : ℕ → Collection → ℕ → Option Collection → Type 0
IsSliced most c left now = IsSomeAnd now (λ same. IsSomeAnd same.check (λ check. IsOpen check.stage × (looked_by check ≡ looked_at c + most) × (left + check.keep.next ≡ c.job.end)))

abbrev pub Slices : ℕ → Collection → Result Looked FinishFault → Option Collection → Type 0
Slices most c (Ok (Looked.Checking left)) now = IsSliced most c left now
Slices most c result now = Unit {0}

-- faults of removals do not end it
abbrev pub CountsFinish : Result Looked FinishFault → ℕ → Noted → Noted → Type 0
CountsFinish (Ok (Looked.Collected collected)) left old new = CountsLeft left old new
CountsFinish (Err (FinishFault.Rejected rejection)) left old new = CountsLeft left old new
CountsFinish (Err FinishFault.Ground) left old new = FileFault old new
CountsFinish (Err (FinishFault.Damaged at)) left old new = DamageFound old new
CountsFinish result left old new = new ≡ old

abbrev pub unswept_by : Result Looked FinishFault → ℕ → Slot → Unswept → Unswept
unswept_by (Ok (Looked.Collected collected)) left s u = if left == 0 then swept_to s else u
unswept_by (Err (FinishFault.Rejected rejection)) left s u = if left == 0 then swept_to s else u
unswept_by result left s u = u

-- the sequence alone may end
pub record LimitsFinish (result : Result Looked FinishFault) (store : Held) : Type 0 where
  pub sequence : (limit : Limit) → result ≡ Err (FinishFault.Limit limit) → (limit ≡ Limit.Sequence) × (store.slot.sequence ≡ OFFSET_MAX)
  pub enough : IsCollected result → store.slot.sequence < OFFSET_MAX

-- ---- where the ground tells

-- Where the attempt is settled. It may not be: a fault of the ground may have come before.
abbrev pub Judges : Records → Collection → Conditions → Told → Type 0
Judges records c met told = (pair : Image) → IsSettledAs told c.job.attempt pair → IsJudged records c.job.horizon c.job.end c.job.attempt pair met

-- by the machine, whatever the work is
abbrev pub repository_after : Repository → Collection → Command → Conditions → Repository
repository_after r c command met = (turned (state_at r (phase_of (Some c)) empty_work) command met).1.repository

-- By the answer: the control file where the store went over to the pair, or was to, and what a sweep removes, where one follows. None else.
abbrev pub MayTouch : Result Looked FinishFault → Held → Unswept → FileName → Type 0
MayTouch (Ok (Looked.Collected collected)) store u file = (file ≡ Control) ⊎ IsSwept store.slot u file
MayTouch (Err (FinishFault.Rejected rejection)) store u file = IsSwept store.slot u file
MayTouch (Err FinishFault.Ground) store u file = file ≡ Control
MayTouch result store u file = ⊥

-- The live pair is what the child has left.
pub record Serves (told : Told) (attempt : ℕ) : Type 0 where
  pub pair : Image
  pub settled : IsSettledAs told attempt pair
  pub mapping : told.held (Mapping attempt) ≡ pair (Mapping attempt)
  pub prefix : told.held (Prefix attempt) ≡ pair (Prefix attempt)

-- Before it this was unswept.
pub record FinishesAs (r after : Repository) (c : Collection) (result : Result Looked FinishFault) (u : Unswept) (left : ℕ) (store : Held) (old new : Told) : Type 0 where
  pub only : EndsFor c.job.attempt (MayTouch result store u) old new
  pub files : KeepsFiles old new
  pub holds : HasAnswer result → Holds store new after
  pub serves : IsCollected result → Serves new c.job.attempt
  -- where no removal failed all is gone that a sweep may remove, but for files of attempts that others may still write; and else all but so many
  pub gone : IsSweptBehind result → left ≡ 0 → (file : FileName) → IsSwept store.slot u file → ¬ IsForeign new file → new.held file ≡ None
  pub all_but : IsSweptBehind result → AllBut (IsSwept store.slot u) left new new
  -- Where nothing was pending: at every moment whatever a crash leaves stands for the repository before or after the call, and once it is answered for the latter alone, and nothing is pending.
  pub atomic : NothingPending old → IsAtomic old new r after
  pub slots : NothingPending old → KeepsSlots old new
  pub recovers : NothingPending old → HasAnswer result → RecoversTo (crash_now new) after
  pub nothing_pending : NothingPending old → HasAnswer result → NothingPending new
  pub flushed : NothingPending old → AllFlushed (crash_now new)
  -- the attempt is settled, so that no child changes its files from then on
  pub settled : HasAnswer result → (pair : Image) × IsSettledAs new c.job.attempt pair

-- Of a child that has ended: the conditions are what was met, with the difference that a whole check has, also where the command was cut short.
pub record FinishesBy (records : Records) (r : Repository) (c : Collection) (command : Command) (result : Result Looked FinishFault) (u : Unswept) (said : Met) (store : Held) (old new : Told) : Type 0 where
  pub met : Conditions
  pub told : met.told ≡ said
  pub judged : Judges records c met new
  pub turns : LookReplies result (λ reply. (work : Machine.Work) → TurnsBy (state_at r (phase_of (Some c)) work) command met reply (state_at (repository_after r c command met) (phase_of store.collection) work))
  pub does : FinishesAs r (repository_after r c command met) c result u said.left store old new
  -- what is kept and what came from the commit on, and else all
  pub remains : (q : Repository) (now : Holds store new q) → IsCollected result → (kept : Records) × AreKept records c.job.horizon c.job.end kept × (now.stands.standing.records ≡ remaining c.job.horizon kept records)
  pub same : (q : Repository) (now : Holds store new q) → HasAnswer result → ¬ IsCollected result → now.stands.standing.records ≡ records
  -- where nothing was pending a crash at any moment leaves all records, or what is kept and what came from the commit on
  pub leaves : NothingPending old → LeavesSwapped records c old new

-- each work that was lawful is so still, unless it was given up
abbrev pub WorksStay : {store now : Held} {old new : Told} {r q : Repository} → Holds store old r → Holds now new q → Type 0
WorksStay {r = r} {q = q} held stays = (work : Work) (v : View) → IsLawful (image_records held) r work v → IsLawful (image_records stays) q work v
