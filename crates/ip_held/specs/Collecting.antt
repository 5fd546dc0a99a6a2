-- A store's phase.
--     phase_of collection      the machine's phase
--     not_leaving_in phase n      the machine's refusal of a number that lies below the commit of the collection that runs
--     IsJobOf s job      the job of a collection in a store with this live slot
--     IsPhaseOf s r collection      what a collection is to the slot and to the repository
--     child_of collection      the attempt of the child that is held
--     IsUnswept s u      what a store with this live slot has of what is unswept.      carrying s u, carried store      the live slot with that
--     IsGoing floor places u space c      where the record of its commit lies, that a sweep begins at its attempt at most, and the check that it keeps
--     until end records      those below an end.      HasEnded told records c      its child, and how far its check is.      IsOfChild told records c exit      whose the attempt is
--     Collects told s space records r c      where the ground tells: what the swap asks of the records, and what was checked of them and of the files
--     IsAbove collection x      the record puts no branch below the commit of the collection
use Rattle.std.specs.Prelude.{◌≡◌, ◌≢◌, ◌⊎◌, ℕ, ◌+◌, ◌-◌, ◌/◌, ◌≤◌, List, filter, Option, Some, None, is_some, IsTrue, IsSome, IfSome, Ok, nat_lt, slice_get}
use Rattle.ip_ground.specs.declared.names.FileName.TheVariants.{Prefix, Mapping}
use Rattle.ip_base.specs.declared.exit.Reaped.{Reaped}
use Rattle.ip_ground.specs.Contents.{Image}
use Rattle.ip_ground.specs.Custody.{lent}
use Rattle.ip_ground.specs.Told.{Told, lending, IsSettledAs}
use Rattle.ip_spawn.specs.Jobs.{IsValid}
use Rattle.ip_spawn.specs.declared.job.Job.{Job}
use Rattle.ip_spec.specs.declared.record.Record.{Record}
use Rattle.ip_spec.specs.declared.record.Record.TheVariants as record_of
use Rattle.ip_spec.specs.declared.reply.Reply.TheVariants as Reply
use Rattle.ip_spec.specs.Machine.{Phase}
use Rattle.ip_spec.specs.Map.{get}
use Rattle.ip_spec.specs.Path.{Bytes}
use Rattle.ip_spec.specs.Repository.{Repository, is_retained}
use Rattle.ip_spec.specs.Step.{Refused, below, unless_some}
use Rattle.ip_spec.specs.TreeAt.{Records, present}
use Rattle.ip_image.specs.declared.slot.Slot.{Slot}
use Rattle.ip_image.specs.Collected.{IsCollectable}
use Rattle.ip_image.specs.Collection.{found_in}
use Rattle.ip_space.specs.SpaceView.{SpaceView, bare, grown}
use Rattle.ip_check.specs.Checking.{IsCheck, IsChecking}
use Rattle.ip_held.specs.declared.collection.Collection.{Collection}
use Rattle.ip_held.specs.declared.collection.Unswept.{Unswept}
use Rattle.ip_held.specs.declared.held.Held.{Held}

abbrev pub phase_of : Option Collection → Phase
phase_of None = Phase.Idle
phase_of (Some c) = Phase.Collecting c.commit c.exit

-- whatever repository and work there are, this is the machine's refusal
abbrev pub not_leaving_in : Phase → Option ℕ → Refused (Unit {0})
not_leaving_in phase n = elim phase [ Phase.Idle ↦ Ok tt | Phase.Collecting c exit ↦ unless_some (below c n) Reply.Leaving ]

-- Until the collection is over no other attempt is drawn, and the slot's generation stays.
pub record IsJobOf (s : Slot) (job : Job) : Type 0 where
  pub valid : IsValid job
  pub attempt : job.attempt + 1 ≡ s.next_attempt
  pub end : job.end ≤ s.end
  pub chunk : job.chunk ≡ s.chunk
  pub live : job.live ≡ s.live
  pub old_horizon : job.old_horizon ≡ s.horizon
  pub prefix_len : job.prefix_len ≡ s.prefix_len
  pub rows : job.rows ≡ s.rows

-- its commit is retained, no branch is below it, and an exit that is kept is that of its child
pub record IsPhase (s : Slot) (r : Repository) (c : Collection) : Type 0 where
  pub retained : IsTrue (is_retained r c.commit)
  pub heads : (name : Bytes) → IfSome (get r.branches name) (λ n. c.commit ≤ n)
  pub told : IsJobOf s c.job
  pub reaped : IfSome c.exit (λ reaped. reaped.attempt ≡ c.job.attempt)

abbrev pub IsPhaseOf : Slot → Repository → Option Collection → Type 0
IsPhaseOf s r None = Unit {0}
IsPhaseOf s r (Some c) = IsPhase s r c

abbrev pub IsAbove : Option Collection → Record → Type 0
IsAbove None x = Unit {0}
IsAbove (Some c) (record_of.BranchSet number name) = c.commit ≤ number
IsAbove (Some c) x = Unit {0}

-- Over any ground. A check is kept only of a child that has ended, and of the records up to the job's end.
pub record IsGoing (floor : ℕ) (places : List ℕ) (u : Unswept) (space : SpaceView) (c : Collection) : Type 0 where
  pub placed : slice_get places (c.commit - floor) ≡ Some c.job.horizon
  pub drawn : u.attempt ≤ c.job.attempt
  pub check : IfSome c.check (λ check. IsCheck check × (check.job ≡ c.job) × (check.keep.space ≡ bare (grown space c.job.end)) × IsSome c.exit)

abbrev pub until : ℕ → Records → Records
until end records = filter (λ (x : ℕ × Record). nat_lt x.0 end) records

-- Its attempt is settled, the pair as it was then, and a check that is kept is true of it.
pub record HasEnded (told : Told) (records : Records) (c : Collection) : Type 0 where
  pub pair : Image
  pub settled : IsSettledAs told c.job.attempt pair
  pub mapping : told.held (Mapping c.job.attempt) ≡ pair (Mapping c.job.attempt)
  pub prefix : told.held (Prefix c.job.attempt) ≡ pair (Prefix c.job.attempt)
  pub checked : IfSome c.check (IsChecking (until c.job.end records) (found_in told.held c.job.attempt))

-- the attempt is lent until the exit is known
abbrev pub IsOfChild : Told → Records → Collection → Option Reaped → Type 0
IsOfChild told records c None = lending told c.job.attempt ≡ lent
IsOfChild told records c (Some reaped) = HasEnded told records c

-- The records up to the job's end are those that there were when it began: one begins there, or it is the end.
pub record Collects (told : Told) (s : Slot) (records : Records) (r : Repository) (c : Collection) : Type 0 where
  pub kept : List ℕ
  pub collectable : IsCollectable records r s.horizon c.commit c.job.horizon c.job.end kept (is_some c.exit)
  pub border : (c.job.end ≡ s.end) ⊎ IsSome (present records c.job.end)
  pub child : IsOfChild told records c c.exit

-- while its exit is not known
abbrev pub child_of : Option Collection → Option ℕ
child_of None = None
child_of (Some c) = elim c.exit [ None ↦ Some c.job.attempt | Some reaped ↦ None ]

pub record IsUnswept (s : Slot) (u : Unswept) : Type 0 where
  pub chunk : u.chunk ≤ s.horizon / s.chunk
  pub low : 1 ≤ u.attempt
  pub high : u.attempt ≤ s.next_attempt
  pub live : s.live ≢ 0 → u.attempt ≤ s.live

-- the next slot is made of it
abbrev pub carrying : Slot → Unswept → Slot
carrying s u = record s { first_chunk = u.chunk; first_attempt = u.attempt }

abbrev pub carried : Held → Slot
carried store = carrying store.slot store.unswept
