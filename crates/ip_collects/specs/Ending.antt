-- How a look and a finish go on with what is heard of the child.
--     IsHeardIn running child      so it may be heard, where this collection runs.      held_behind child held      the child that is held then
--     SeesChild, AwaitsChild attempt child tells x y m n      what is asked of the spawner, and what it tells and counts then
--     Listens attempt old new      what it does to what a ground tells that the end of a child is known
--     FitsEnd exit c left result      what an answer tells of the exit.      GoesOnAs most result c now      whether the collection goes on
--     after_by result r c      the repository then.      after_with result difference r c      the machine's, by the difference that there is
--     Ends exit most c result left store now      what it does that the child has ended so.      EndsBy records r c result u left store old new      where the ground tells
--     Goes child most result met store now      and what the whole call does, whatever was heard
use Rattle.std.specs.Prelude.{◌≡◌, ◌≢◌, ◌⊎◌, ◌↔◌, ℕ, ◌-◌, ◌<◌, ◌≤◌, ◌^◌, Bool, true, false, Option, Some, None, Result, Ok, Err, IfSome, IsErrOf, IsTrue, is_err, is_ok, is_some}
use Rattle.ip_base.specs.declared.limit.TheConstants.{OFFSET_MAX}
use Rattle.ip_base.specs.declared.limit.Limit.{Limit}
use Rattle.ip_base.specs.declared.exit.Exit.{Exit}
use Rattle.ip_base.specs.declared.exit.Reaped.{Reaped}
use Rattle.ip_ground.specs.Contents.{Image}
use Rattle.ip_ground.specs.Told.{Told, IsSettledAs, NoFile}
use Rattle.ip_spawn.specs.declared.spawner.Look.{Look}
use Rattle.ip_spawn.specs.declared.spawner.SpawnCounts.{SpawnCounts}
use Rattle.ip_spawn.specs.declared.spawner.SpawnFault.{SpawnFault}
use Rattle.ip_spawn.specs.Children as spawn
use Rattle.ip_spawn.specs.Children.{end_reaped, end_seen, is_running, told_after}
use Rattle.ip_spawn.specs.Counts.{Counts}
use Rattle.ip_spec.specs.declared.command.Command.{Command}
use Rattle.ip_spec.specs.declared.met.Child.{Child}
use Rattle.ip_spec.specs.declared.met.Met.{Met}
use Rattle.ip_spec.specs.declared.reply.Difference.{Difference}
use Rattle.ip_spec.specs.Repository.{Repository}
use Rattle.ip_spec.specs.Step.{collected_at}
use Rattle.ip_spec.specs.TreeAt.{Records}
use Rattle.ip_image.specs.Collected.{remaining}
use Rattle.ip_image.specs.Collection.{Pair, IsValid, IsKept as AreKept, first_difference, found_in}
use Rattle.ip_image.specs.Pending.{NothingPending}
use Rattle.ip_check.specs.CheckView.{CheckView}
use Rattle.ip_held.specs.declared.collection.Collection.{Collection}
use Rattle.ip_held.specs.declared.collection.Unswept.{Unswept}
use Rattle.ip_collects.specs.declared.finishing.FinishFault.{FinishFault}
use Rattle.ip_collects.specs.declared.finishing.Looked.{Looked}
use Rattle.ip_collects.specs.declared.finishing.Rejection.TheVariants as Rejection
use Rattle.ip_held.specs.declared.held.Held.{Held}
use Rattle.ip_held.specs.Collecting.{child_of}
use Rattle.ip_collects.specs.Finishing.{LookReplies, Concludes, HasAnswer, IsAsked, IsChecking, IsCollected, IsKept, IsOver, IsQuiet, IsSweptBehind, IsUndamaged, FinishesAs, KeepsCollection, LimitsFinish, LooksOn, SlotBy, Slices, child_reaped, child_seen, conditions_by, met_by_finish, unswept_by}
use Rattle.ip_collects.specs.Judging.{FindsNone, FitsRejection, IsThrough, is_zero}
use Rattle.ip_held.specs.StandsBy.{LeavesSwapped}
use Rattle.ip_held.specs.Held.{IsOf, Holds}
use Rattle.ip_held.specs.Sweeping.{EndsFor, KeepsFiles}

-- ---- what is heard

-- an exit that is kept is heard again, and else the child is asked
abbrev pub MayBeHeard : Option Reaped → ℕ → Child → Type 0
MayBeHeard (Some kept) attempt child = child ≡ Child.Ended kept
MayBeHeard None attempt Child.NotAsked = ⊥
MayBeHeard None attempt Child.Running = Unit {0}
MayBeHeard None attempt Child.Fault = Unit {0}
MayBeHeard None attempt (Child.Ended reaped) = reaped.attempt ≡ attempt

abbrev pub IsHeardIn : Option Collection → Child → Type 0
IsHeardIn None child = child ≡ Child.NotAsked
IsHeardIn (Some c) child = MayBeHeard c.exit c.job.attempt child

abbrev pub held_behind : Child → Option ℕ → Option ℕ
held_behind (Child.Ended reaped) held = None
held_behind child held = held

-- The child of an attempt is asked once, and what was answered is heard, whether it has ended,
abbrev pub SeesChild : ℕ → Child → Bool → spawn.Told → spawn.Told → SpawnCounts → SpawnCounts → Type 0
SeesChild attempt child tells x y m n = (answer : Result Look SpawnFault) × (child ≡ child_seen answer) × IfSome (end_seen answer) (λ reaped. reaped.attempt ≡ attempt)
    × (IsTrue tells → y ≡ told_after (end_seen answer) x) × Counts (is_running answer) false (is_some (end_seen answer)) (is_err answer) m n

-- or how, which is waited for.
abbrev pub AwaitsChild : ℕ → Child → Bool → spawn.Told → spawn.Told → SpawnCounts → SpawnCounts → Type 0
AwaitsChild attempt child tells x y m n = (answer : Result Reaped SpawnFault) × (child ≡ child_reaped answer) × IfSome (end_reaped answer) (λ reaped. reaped.attempt ≡ attempt)
    × (IsTrue tells → y ≡ told_after (end_reaped answer) x) × Counts false true (is_ok answer) (is_err answer) m n

-- No file changes. The attempt is settled then, if it was not.
pub record Listens (attempt : ℕ) (old new : Told) : Type 0 where
  pub only : EndsFor attempt NoFile old new
  pub files : KeepsFiles old new

-- ---- the child has ended

abbrev pub FitsEnd : Exit → Collection → ℕ → Result Looked FinishFault → Type 0
FitsEnd exit c left (Ok Looked.Running) = ⊥
FitsEnd exit c left (Ok (Looked.Collected collected)) = is_zero exit × (collected ≡ record { floor = c.commit; left = left })
FitsEnd exit c left (Err FinishFault.Idle) = ⊥
FitsEnd exit c left (Err FinishFault.Wait) = ⊥
FitsEnd exit c left (Err (FinishFault.Rejected rejection)) = FitsRejection exit rejection
FitsEnd exit c left (Err (FinishFault.Limit limit)) = is_zero exit × (limit ≡ Limit.Sequence)
FitsEnd exit c left result = is_zero exit

-- else it is kept, with its check as far as it is
abbrev pub GoesOnAs : ℕ → Result Looked FinishFault → Collection → Option Collection → Type 0
GoesOnAs most (Ok (Looked.Collected collected)) c now = now ≡ None
GoesOnAs most (Err (FinishFault.Rejected rejection)) c now = now ≡ None
GoesOnAs most (Err (FinishFault.Limit limit)) c now = now ≡ None
GoesOnAs most result c now = (check : Option CheckView) × (now ≡ Some (record c { check = check })) × LooksOn most c check

abbrev pub after_by : Result Looked FinishFault → Repository → Collection → Repository
after_by (Ok (Looked.Collected collected)) r c = collected_at r c.commit
after_by result r c = r

pub record Ends (exit : Exit) (most : ℕ) (c : Collection) (result : Result Looked FinishFault) (left : ℕ) (store now : Held) : Type 0 where
  pub fits : FitsEnd exit c left result
  pub through : result ≡ Err FinishFault.Memory → FindsNone now.collection
  pub sequence : result ≡ Err FinishFault.Memory → IsThrough now.collection → store.slot.sequence < OFFSET_MAX
  pub room : result ≡ Err FinishFault.Ground → IsThrough now.collection → store.slot.sequence < OFFSET_MAX
  pub none : ¬ IsSweptBehind result → left ≡ 0
  pub goes_on : GoesOnAs most result c now.collection
  pub tables : (r : Repository) → IsOf store r → HasAnswer result → IsOf now (after_by result r c)
  pub sliced : Slices most c result now.collection
  pub whole : most ≡ 2 ^ 64 - 1 → ¬ IsChecking result
  pub limits : LimitsFinish result store
  pub slot : SlotBy result c store now.slot
  pub unswept : now.unswept ≡ unswept_by result left now.slot store.unswept

-- ---- where the ground tells

-- what an answer tells of the difference
abbrev pub TellsDifference : Result Looked FinishFault → Option Difference → Type 0
TellsDifference (Ok (Looked.Collected collected)) difference = difference ≡ None
TellsDifference (Err (FinishFault.Rejected (Rejection.Differs d))) difference = difference ≡ Some d
TellsDifference (Err (FinishFault.Limit limit)) difference = difference ≡ None
TellsDifference result difference = Unit {0}

abbrev pub after_cut : Option Difference → Repository → Collection → Repository
after_cut None r c = collected_at r c.commit
after_cut (Some difference) r c = r

-- where a fault cut it short, what the machine gives for the pair as it is
abbrev pub after_with : Result Looked FinishFault → Option Difference → Repository → Collection → Repository
after_with (Err FinishFault.Ground) difference r c = after_cut difference r c
after_with (Err (FinishFault.Damaged at)) difference r c = after_cut difference r c
after_with result difference r c = after_by result r c

pub record EndsBy (records : Records) (r : Repository) (c : Collection) (result : Result Looked FinishFault) (u : Unswept) (left : ℕ) (store : Held) (old new : Told) : Type 0 where
  pub difference : Option Difference
  pub valid : Pair
  pub is_valid : IsValid records c.job.horizon c.job.end valid
  pub judged : (pair : Image) → IsSettledAs new c.job.attempt pair → difference ≡ first_difference valid (found_in pair c.job.attempt)
  pub tells : TellsDifference result difference
  pub does : FinishesAs r (after_with result difference r c) c result u left store old new
  pub remains : (q : Repository) (now : Holds store new q) → IsCollected result → (kept : Records) × AreKept records c.job.horizon c.job.end kept × (now.stands.standing.records ≡ remaining c.job.horizon kept records)
  pub same : (q : Repository) (now : Holds store new q) → HasAnswer result → ¬ IsCollected result → now.stands.standing.records ≡ records
  pub leaves : NothingPending old → LeavesSwapped records c old new

-- ---- the call

-- What the call says of its answer, of what it met and of the store, by what was heard of the child, where it looks at so many records at most.
pub record Goes (child : Child) (most : ℕ) (result : Result Looked FinishFault) (met : Met) (store now : Held) : Type 0 where
  pub left : ℕ
  pub told : met ≡ met_by_finish child result left
  pub answered : (r : Repository) → IsOf store r → (command : Command) → IsAsked command result → LookReplies result (Concludes r store.collection command (conditions_by met result) now)
  pub runs : (store.collection ≡ None) ↔ IsErrOf result FinishFault.Idle
  pub quiet : IsQuiet result → now ≡ store
  -- where no sweep follows no removal failed
  pub none : ¬ IsSweptBehind result → met.left ≡ 0
  pub ended : IsQuiet result ⊎ ((reaped : Reaped) × (child ≡ Child.Ended reaped))
  pub held : child_of now.collection ≡ held_behind child (child_of store.collection)
  -- memory is wanted only where what it wrote is looked at
  pub wanted : result ≡ Err FinishFault.Memory → (reaped : Reaped) → child ≡ Child.Ended reaped → is_zero reaped.exit
  -- and never once the check is through with a difference
  pub through : result ≡ Err FinishFault.Memory → FindsNone now.collection
  -- nor where it has found the pair valid and the sequence is at its end
  pub sequence : result ≡ Err FinishFault.Memory → IsThrough now.collection → store.slot.sequence < OFFSET_MAX
  -- Damage is found only in the check of what a child wrote that ended with code 0,
  pub damage : ¬ IsUndamaged result → (reaped : Reaped) → child ≡ Child.Ended reaped → is_zero reaped.exit
  -- and where how it ended had been kept a fault of the ground is met only behind such an end,
  pub fault : result ≡ Err FinishFault.Ground → (c : Collection) (reaped : Reaped) → store.collection ≡ Some c → c.exit ≡ Some reaped → is_zero reaped.exit
  -- and never in the place of the limit: once the check has found the pair valid, only where the sequence goes on.
  pub room : result ≡ Err FinishFault.Ground → IsThrough now.collection → store.slot.sequence < OFFSET_MAX
  -- how the child ended is kept where it is not over, and so is the check
  pub goes_on : IsKept result → (c : Collection) (reaped : Reaped) → store.collection ≡ Some c → child ≡ Child.Ended reaped → KeepsCollection most c reaped now.collection
  pub sliced : (c : Collection) → store.collection ≡ Some c → Slices most c result now.collection
  pub whole : most ≡ 2 ^ 64 - 1 → ¬ IsChecking result
  pub running : child ≢ Child.Running → result ≢ Ok Looked.Running
  pub over : IsOver result → now.collection ≡ None
  pub limits : LimitsFinish result store
  pub slot : (c : Collection) → store.collection ≡ Some c → SlotBy result c store now.slot
  pub unswept : now.unswept ≡ unswept_by result met.left now.slot store.unswept
