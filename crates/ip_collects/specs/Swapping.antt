-- The swap to the pair of a collection.
--     IsSwap store c check swap      what will be done, whatever is told: the slot, the space and the names that stay
--     RefusesSwap store c fault      why it is not done.      turned_down fault store      the store then.      IsSwapFault fault, IsTurnedDown result      which faults there are; nothing was done, and no damage found
--     SwapsTables swap store now      the tables go without the commits that are given up
--     SyncsPair attempt result old new      what syncing the pair of a settled attempt does
--     Accepts result r store now      what becomes of the tables.      AcceptsAs records r c result store old new      and what it does to what a ground tells
use Rattle.std.specs.Prelude.{◌≡◌, ℕ, ◌-◌, ◌<◌, [], length, drop, None, Result, Ok, Err, OnOk}
use Rattle.ip_base.specs.declared.limit.TheConstants.{OFFSET_MAX}
use Rattle.ip_base.specs.declared.limit.Limit.{Limit}
use Rattle.ip_ground.specs.declared.names.FileName.TheVariants.{Control, Prefix, Mapping}
use Rattle.ip_ground.specs.declared.names.GroundFault.{GroundFault}
use Rattle.ip_ground.specs.Contents.{Image}
use Rattle.ip_ground.specs.Told.{Told, IsSynced, IsLoose, IsSettledAs, Only, NoFile}
use Rattle.ip_spec.specs.Repository.{Repository}
use Rattle.ip_spec.specs.Step.{collected_at}
use Rattle.ip_spec.specs.TreeAt.{Records}
use Rattle.ip_image.specs.Collected.{remaining}
use Rattle.ip_image.specs.Collection.{IsKept}
use Rattle.ip_image.specs.Headline.{IsAtomic}
use Rattle.ip_image.specs.Pending.{crash_now, NothingPending, AllFlushed}
use Rattle.ip_image.specs.Slot.{layout_of}
use Rattle.ip_image.specs.Virtual.{total}
use Rattle.ip_keep.specs.Runs.{joined}
use Rattle.ip_check.specs.CheckView.{CheckView}
use Rattle.ip_held.specs.declared.collection.Collection.{Collection}
use Rattle.ip_collects.specs.declared.finishing.FinishFault.{FinishFault}
use Rattle.ip_held.specs.declared.held.Held.{Held}
use Rattle.ip_collects.specs.declared.swapping.Swap.{Swap}
use Rattle.ip_collects.specs.Finishing.{Serves, swapped_slot}
use Rattle.ip_held.specs.StandsBy.{LeavesSwapped}
use Rattle.ip_held.specs.Held.{IsOf, Holds}
use Rattle.ip_held.specs.Slots.{KeepsSlots}
use Rattle.ip_held.specs.Sweeping.{EndsFor, KeepsFiles}

pub record IsSwap (store : Held) (c : Collection) (check : CheckView) (swap : Swap) : Type 0 where
  pub slot : swap.slot ≡ swapped_slot store.slot store.unswept c (total (joined check.keep.kept)) (length (joined check.keep.kept))
  pub space : swap.space ≡ record { layout = layout_of swap.slot; runs = joined check.keep.kept; kept = [] }
  pub names : swap.names ≡ drop (c.commit - store.slot.floor) store.names
  pub sequence : store.slot.sequence < OFFSET_MAX
  pub above : 0 < c.job.horizon

-- the sequence comes first, then memory; a record of a commit never lies at 0 where the ground tells
abbrev pub RefusesSwap : Held → Collection → FinishFault → Type 0
RefusesSwap store c (FinishFault.Limit Limit.Sequence) = store.slot.sequence ≡ OFFSET_MAX
RefusesSwap store c (FinishFault.Damaged at) = (at ≡ 0) × (c.job.horizon ≡ 0)
RefusesSwap store c FinishFault.Memory = store.slot.sequence < OFFSET_MAX
RefusesSwap store c fault = ⊥

-- the store then: where the sequence ends the collection is over
abbrev pub turned_down : FinishFault → Held → Held
turned_down (FinishFault.Limit limit) store = record store { collection = None }
turned_down fault store = store

abbrev pub IsSwapFault : FinishFault → Type 0
IsSwapFault FinishFault.Ground = Unit {0}
IsSwapFault (FinishFault.Limit Limit.Sequence) = Unit {0}
IsSwapFault (FinishFault.Damaged at) = Unit {0}
IsSwapFault FinishFault.Memory = Unit {0}
IsSwapFault fault = ⊥

abbrev pub IsTurnedDown : Result (Unit {0}) FinishFault → Type 0
IsTurnedDown (Ok x) = ⊥
IsTurnedDown (Err FinishFault.Ground) = ⊥
IsTurnedDown (Err (FinishFault.Damaged at)) = ⊥
IsTurnedDown (Err fault) = Unit {0}

pub record SwapsTables (swap : Swap) (store now : Held) : Type 0 where
  pub index : now.index ≡ 1 - store.index
  pub slot : now.slot ≡ swap.slot
  pub names : now.names ≡ swap.names
  pub places : now.places ≡ drop (swap.slot.floor - store.slot.floor) store.places
  pub branches : now.branches ≡ store.branches
  pub history : now.history ≡ record { floor = swap.slot.floor; parents = drop (swap.slot.floor - store.slot.floor) store.history.parents }
  pub space : now.space ≡ swap.space
  pub collection : now.collection ≡ None
  pub unswept : now.unswept ≡ store.unswept

-- No file changes at any moment. Ok: a crash leaves both as they are.
pub record SyncsPair (attempt : ℕ) (result : Result (Unit {0}) GroundFault) (old new : Told) : Type 0 where
  pub only : EndsFor attempt NoFile old new
  pub files : KeepsFiles old new
  pub settled : (pair : Image) → IsSettledAs old attempt pair → IsSettledAs new attempt pair
  pub mapping : new.held (Mapping attempt) ≡ old.held (Mapping attempt)
  pub prefix : new.held (Prefix attempt) ≡ old.held (Prefix attempt)
  pub kept : OnOk result (IsSynced new (Mapping attempt) × IsSynced new (Prefix attempt))
  pub firm : OnOk result ((¬ IsLoose new (Mapping attempt)) × (¬ IsLoose new (Prefix attempt)))

-- Where the sequence ends the collection is over, and else the store stays as it was.
abbrev pub Accepts : Result (Unit {0}) FinishFault → Repository → Collection → Held → Held → Type 0
Accepts (Ok x) r c store now = IsOf now (collected_at r c.commit) × (now.collection ≡ None) × (length' : ℕ) × (rows : ℕ) × (now.slot ≡ swapped_slot store.slot store.unswept c length' rows) × (now.unswept ≡ store.unswept) × (store.slot.sequence < OFFSET_MAX)
Accepts (Err (FinishFault.Limit limit)) r c store now = (now ≡ record store { collection = None }) × (store.slot.sequence ≡ OFFSET_MAX)
Accepts (Err fault) r c store now = now ≡ store

-- Of a pair that was found valid.
pub record AcceptsAs (records : Records) (r : Repository) (c : Collection) (result : Result (Unit {0}) FinishFault) (store : Held) (old new : Told) : Type 0 where
  pub only : EndsFor c.job.attempt (Only Control) old new
  pub files : KeepsFiles old new
  pub holds : OnOk result (Holds store new (collected_at r c.commit))
  pub serves : OnOk result (Serves new c.job.attempt)
  -- what is kept, and what came from the commit on
  pub remains : (q : Repository) (now : Holds store new q) → OnOk result ((kept : Records) × IsKept records c.job.horizon c.job.end kept × (now.stands.standing.records ≡ remaining c.job.horizon kept records))
  pub atomic : NothingPending old → IsAtomic old new r (collected_at r c.commit)
  pub slots : NothingPending old → KeepsSlots old new
  pub leaves : NothingPending old → LeavesSwapped records c old new
  pub nothing_pending : NothingPending old → OnOk result (NothingPending new)
  pub flushed : NothingPending old → AllFlushed (crash_now new)
