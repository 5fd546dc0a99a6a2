-- How a collection begins.
--     table_of r      the record of its branches as they are
--     Replies r result P      the reply has this; a fault of the ground has none
--     met_by_start result      what was met
--     AnswersCall r running command met store reply      the reply and the next phase are the machine's, for what was met, and the repository stays
--     AnswersStart r number running met store reply      so for a collection at this commit, whatever names it
--     new_collection number job      the collection then
--     IsBegun result      the attempt was drawn, whether a child was started or not.      IsTurnedDown result      nothing was done
--     LimitsStart end result store      which limit is met.      IsFree r number store      nothing stands against a collection there.      RefusesStart r number store fault      or this
--     begun_slot s length      the slot behind the record of branches
--     IsJobAt store number now job      the job that the child is given.      started_by dir job result      the children that were started, in this folder
--     IsStart r store number start      what will be done, whatever is told.      begun store start      the store behind the step
--     end_behind r s      where the table of branches ends that is put behind a slot's records
--     Begins r store now old new      the record stands behind those that there were, and the slot says so
--     StartsCollection r attempt result store old new      what it does to what a ground tells, and what the store holds then
--     BeginsCollecting tells number result store now old new      all that is promised of the call, but for the child and the ground's counts
use Rattle.std.specs.Prelude.{◌≡◌, ℕ, ◌+◌, ◌-◌, ◌<◌, ◌≤◌, List, [], ◌∷◌, ◌++◌, length, Bool, true, Option, Some, None, option_map, Result, Ok, Err, IfOk, IsErr, IsErrOf, IsSomeAnd, IsTrue, slice_get}
use Rattle.ip_base.specs.declared.limit.TheConstants.{OFFSET_MAX}
use Rattle.ip_base.specs.declared.limit.Limit.{Limit}
use Rattle.ip_ground.specs.Custody as custody
use Rattle.ip_ground.specs.Custody.{own, lent}
use Rattle.ip_ground.specs.Contents.{Image}
use Rattle.ip_ground.specs.Told.{Told, lending, IsPossible}
use Rattle.ip_spawn.specs.Children as spawn
use Rattle.ip_spawn.specs.declared.job.Job.{Job}
use Rattle.ip_spec.specs.declared.command.Command.{Command}
use Rattle.ip_spec.specs.declared.command.Target.{Target}
use Rattle.ip_spec.specs.declared.met.Met.{Met}
use Rattle.ip_spec.specs.declared.reply.Reply.{Reply}
use Rattle.ip_spec.specs.Machine.{Work}
use Rattle.ip_spec.specs.Path.{Bytes}
use Rattle.ip_spec.specs.Record.{Hash, spelling}
use Rattle.ip_spec.specs.Repository.{Repository, is_retained, name_at}
use Rattle.ip_spec.specs.Step.{resolve, held_branch}
use Rattle.ip_image.specs.declared.slot.Slot.{Slot}
use Rattle.ip_image.specs.Headline.{RecoversTo}
use Rattle.ip_image.specs.Virtual.{chunk_byte}
use Rattle.ip_image.specs.Pending.{HasLive, SameSpace, crash_at, crash_now, NothingPending, AllFlushed, KeepsSpace}
use Rattle.ip_space.specs.SpaceView.{grown}
use Rattle.ip_held.specs.declared.collection.Collection.{Collection}
use Rattle.ip_collects.specs.declared.starting.CollectFault.{CollectFault}
use Rattle.ip_collects.specs.declared.starting.Start.{Start}
use Rattle.ip_held.specs.declared.held.Held.{Held}
use Rattle.ip_collects.specs.CollectEvents.{begin_events}
use Rattle.ip_held.specs.Changes.{next_slot}
use Rattle.ip_held.specs.Clear.{KeepsClear}
use Rattle.ip_held.specs.Fronts.{LeavesFront}
use Rattle.ip_held.specs.Slots.{KeepsSlots}
use Rattle.ip_held.specs.Tie.{IsTied, appending}
use Rattle.ip_held.specs.Trees.{RecordsStay}
use Rattle.ip_held.specs.Collecting.{phase_of, carried, IsJobOf}
use Rattle.ip_held.specs.Answers.{Turns, met_nothing}
use Rattle.ip_publish.specs.Publishing.{IsOfStore, IsWritten, MayChange}
use Rattle.ip_held.specs.Held.{IsOf, Holds, image_records, place_of_commit}
use Rattle.ip_held.specs.Sweeping.{ChangesFor, KeepsFiles}
use Rattle.ip_held.specs.Work.{state_at}
use Rattle.ip_held.specs.TableRecord.{table_of}

-- ---- answers

-- the name of the branch at a place in the order of names
abbrev pub branch_name_at : Repository → ℕ → Option Bytes
branch_name_at r place = option_map (λ e. e.0) (slice_get r.branches.entries place)

abbrev pub Replies : Repository → Result Hash CollectFault → (Reply → Type 0) → Type 0
Replies r (Ok name) P = P (Reply.Started name)
Replies r (Err (CollectFault.Busy name)) P = P (Reply.Busy name)
Replies r (Err (CollectFault.Held place)) P = IsSomeAnd (branch_name_at r place) (λ name. P (Reply.Held name))
Replies r (Err (CollectFault.Limit limit)) P = P (Reply.Limit limit)
Replies r (Err CollectFault.Start) P = P Reply.StartFault
Replies r (Err CollectFault.Memory) P = P Reply.Memory
Replies r (Err CollectFault.Ground) P = Unit {0}

abbrev pub met_by_start : Result Hash CollectFault → Met
met_by_start (Err (CollectFault.Limit limit)) = record met_nothing { short = Some limit }
met_by_start (Err CollectFault.Start) = record met_nothing { start_failed = true }
met_by_start (Err CollectFault.Memory) = record met_nothing { refused = true }
met_by_start result = met_nothing

-- whatever the work is
pub record AnswersCall (r : Repository) (running : Option Collection) (command : Command) (met : Met) (store : Held) (reply : Reply) : Type 0 where
  pub turns : (work : Work) → Turns (state_at r (phase_of running) work) command met reply (state_at r (phase_of store.collection) work)
  pub tables : IsOf store r

abbrev pub AnswersStart : Repository → ℕ → Option Collection → Met → Held → Reply → Type 0
AnswersStart r number running met store reply = (target : Target) → resolve r target ≡ Ok number → AnswersCall r running (Command.Collect target) met store reply

-- the collection, while its child is not heard of
abbrev pub new_collection : ℕ → Job → Collection
new_collection number job = record { commit = number; job = job; exit = None; check = None }

-- behind the durable step
abbrev pub IsBegun : {A : Type 0} → Result A CollectFault → Type 0
IsBegun (Ok x) = Unit {0}
IsBegun (Err CollectFault.Start) = Unit {0}
IsBegun (Err fault) = ⊥

-- before it
abbrev pub IsTurnedDown : {A : Type 0} → Result A CollectFault → Type 0
IsTurnedDown (Ok x) = ⊥
IsTurnedDown (Err CollectFault.Start) = ⊥
IsTurnedDown (Err CollectFault.Ground) = ⊥
IsTurnedDown (Err fault) = Unit {0}

-- In this order: the next attempt is the greatest, the table would pass the greatest place, the sequence is the greatest.
pub record LimitsStart (end : ℕ) (result : Result Hash CollectFault) (store : Held) : Type 0 where
  pub attempt : IsErrOf result (CollectFault.Limit Limit.Attempt) → store.slot.next_attempt ≡ OFFSET_MAX
  pub space : IsErrOf result (CollectFault.Limit Limit.Space) → (store.slot.next_attempt < OFFSET_MAX) × (OFFSET_MAX < end)
  pub sequence : IsErrOf result (CollectFault.Limit Limit.Sequence) → (store.slot.next_attempt < OFFSET_MAX) × (end ≤ OFFSET_MAX) × (store.slot.sequence ≡ OFFSET_MAX)
  pub enough : IsBegun result → (store.slot.next_attempt < OFFSET_MAX) × (end ≤ OFFSET_MAX) × (store.slot.sequence < OFFSET_MAX)

-- no collection runs, and no branch is below the commit
abbrev pub IsFree : Repository → ℕ → Held → Type 0
IsFree r number store = (store.collection ≡ None) × (held_branch r number ≡ None)

-- why nothing is begun, by the machine's order
abbrev pub RefusesStart : Repository → ℕ → Held → CollectFault → Type 0
RefusesStart r number store (CollectFault.Busy name) = IsSomeAnd store.collection (λ c. name ≡ name_at r c.commit)
RefusesStart r number store (CollectFault.Held place) = (store.collection ≡ None) × IsSomeAnd (branch_name_at r place) (λ name. held_branch r number ≡ Some name)
RefusesStart r number store (CollectFault.Limit Limit.Attempt) = IsFree r number store × (store.slot.next_attempt ≡ OFFSET_MAX)
RefusesStart r number store (CollectFault.Limit Limit.Space) = IsFree r number store × (store.slot.next_attempt < OFFSET_MAX) × (OFFSET_MAX < store.slot.end + length (spelling (table_of r)))
RefusesStart r number store (CollectFault.Limit Limit.Sequence) = IsFree r number store × (store.slot.next_attempt < OFFSET_MAX) × (store.slot.end + length (spelling (table_of r)) ≤ OFFSET_MAX) × (store.slot.sequence ≡ OFFSET_MAX)
RefusesStart r number store CollectFault.Memory = IsFree r number store × (store.slot.next_attempt < OFFSET_MAX)
RefusesStart r number store fault = ⊥

-- ---- the job

-- The attempt that came next is drawn.
abbrev pub begun_slot : Slot → ℕ → Slot
begun_slot s length = record (next_slot s length 0) { next_attempt = s.next_attempt + 1 }

-- Its horizon is the place of the commit's record, and its end is behind the table.
pub record IsJobAt (store : Held) (number : ℕ) (now : Slot) (job : Job) : Type 0 where
  pub of : IsJobOf now job
  pub attempt : job.attempt ≡ store.slot.next_attempt
  pub horizon : place_of_commit store number ≡ Some job.horizon
  pub end : job.end ≡ now.end

abbrev pub started_by : {A : Type 0} → List ℕ → Job → Result A CollectFault → List spawn.Start
started_by dir job (Ok name) = record { dir = dir; job = job } ∷ []
started_by dir job (Err fault) = []

pub record IsStart (r : Repository) (store : Held) (number : ℕ) (start : Start) : Type 0 where
  pub bytes : start.bytes.items ≡ spelling (table_of r)
  pub slot : start.slot ≡ begun_slot (carried store) (length (spelling (table_of r)))
  pub job : IsJobAt store number start.slot start.job
  pub small : store.slot.end + length (spelling (table_of r)) ≤ OFFSET_MAX
  pub sequence : store.slot.sequence < OFFSET_MAX
  pub attempt : store.slot.next_attempt < OFFSET_MAX

abbrev pub begun : Held → Start → Held
begun store start = record store { index = 1 - store.index; slot = start.slot; space = grown store.space start.slot.end }

-- ---- what is done

pub record Begins (r : Repository) (store now : Held) (old new : Told) : Type 0 where
  pub slot : now.slot ≡ begun_slot (carried store) (length (spelling (table_of r)))
  pub records : (q : Repository) (before : Holds store old r) (after : Holds now new q) → after.stands.standing.records ≡ before.stands.standing.records ++ (store.slot.end, table_of r) ∷ []

-- where the table of the branches ends that is put behind the records of a slot
abbrev pub end_behind : Repository → Slot → ℕ
end_behind r s = s.end + length (spelling (table_of r))

-- The repository stays. The attempt is the one that came next.
pub record StartsCollection {A : Type 0} (r : Repository) (attempt : ℕ) (result : Result A CollectFault) (store : Held) (old new : Told) : Type 0 where
  pub only : ChangesFor attempt (MayChange old.held) old new
  -- of the chunks those alone that hold a byte of the table, and no byte behind it
  pub written : (s : Slot) → HasLive s old.held → ChangesFor attempt (IsWritten s.chunk s.end (end_behind r s)) old new
  pub behind : (s : Slot) → HasLive s old.held → (at : ℕ) → end_behind r s ≤ at → chunk_byte s.chunk new.held at ≡ chunk_byte s.chunk old.held at
  pub files : KeepsFiles old new
  pub holds : IsBegun result → Holds store new r
  pub lent : IsBegun result → lending new attempt ≡ lent
  -- it was never lent before
  pub fresh : NothingPending old → lending old attempt ≡ own
  -- Where nothing was pending: at every moment whatever a crash leaves stands for the repository, and once it is answered nothing is pending.
  pub recovers : NothingPending old → (t : ℕ) → old.moment < t → t ≤ new.moment → RecoversTo (crash_at new t) r
  pub slots : NothingPending old → KeepsSlots old new
  pub nothing_pending : NothingPending old → IsBegun result → NothingPending new
  pub flushed : NothingPending old → AllFlushed (crash_now new)
  -- the child may read what the slot's records lie in
  pub space : NothingPending old → (s : Slot) → HasLive s old.held → KeepsSpace s old new
  -- So it may the new slot's, and the table among them: at each moment at which the attempt is lent a crash leaves these as they read now.
  pub table : NothingPending old → IsBegun result → (t : ℕ) → old.moment < t → t ≤ new.moment → new.lending_at t attempt ≡ custody.lent → (image : Image) → IsPossible new t image → SameSpace store.slot new.held image

pub record BeginsCollecting (tells : Bool) (number : ℕ) (result : Result Hash CollectFault) (store now : Held) (old new : Told) : Type 0 where
  pub answered : (r : Repository) → IsOf store r → IsTrue (is_retained r number) → Replies r result (AnswersStart r number store.collection (met_by_start result) now)
  pub named : (r : Repository) → IsOf store r → IsTrue (is_retained r number) → IfOk result (λ name. name ≡ name_at r number)
  pub same_collection : IsErr result → now.collection ≡ store.collection
  -- what is unswept is so still
  pub unswept : now.unswept ≡ store.unswept
  pub turned_down : IsTurnedDown result → now ≡ store
  -- Files are only touched where no collection runs, no branch is below the commit, and there is an attempt left.
  pub begun : (r : Repository) → IsOf store r → IsErrOf result CollectFault.Ground → IsFree r number store × (store.slot.next_attempt < OFFSET_MAX)
  -- So is memory wanted there alone.
  pub wanted : (r : Repository) → IsOf store r → IsErrOf result CollectFault.Memory → IsFree r number store × (store.slot.next_attempt < OFFSET_MAX)
  pub limits : (r : Repository) → IsOf store r → LimitsStart (store.slot.end + length (spelling (table_of r))) result store
  -- no file but the store's and the attempt's is touched, whatever the files are
  pub beside : IsTrue tells → ChangesFor store.slot.next_attempt IsOfStore old new
  pub begins : IsTrue tells → IsBegun result → (r : Repository) → IsOf store r → Begins r store now old new
  pub any_moment : IsTrue tells → (r : Repository) → Holds store old r → StartsCollection r store.slot.next_attempt result now old new
  pub stay : IsTrue tells → IsBegun result → (r q : Repository) (held : Holds store old r) (still : Holds now new q) → RecordsStay (image_records held) (image_records still)
  pub clear : IsTrue tells → ¬ IsErrOf result CollectFault.Ground → (r : Repository) → Holds store old r → KeepsClear store now old new
  pub tied : IsTrue tells → ¬ IsErrOf result CollectFault.Ground → (r q : Repository) (held : Holds store old r) (still : Holds now new q) →
      IsTied store held.stands.standing.records now still.stands.standing.records (begin_events ((store.slot.end, table_of r) ∷ []) now.collection result)
  -- where nothing was pending a crash at any moment, within a fault of the ground too, leaves a front of its events
  pub fronts : IsTrue tells → (r : Repository) (held : Holds store old r) → NothingPending old → LeavesFront store held.stands.standing.records (appending ((store.slot.end, table_of r) ∷ [])) old new
