-- A collection that is accepted.
--     runs_through, check_through      the collection, and its check that is through
--     refused_so, refused_tables, refused_counts      why no swap was planned, and what becomes of the tables and of counts then.      refused_sequence, refused_room      only where the sequence goes on memory was wanted.      turned_safe, refused_rootless      whether damage was found, and where.      undamaged      a commit's record never lies at 0
--     accepts_tables, slot_of_swap      the tables of a swap that was made, and its slot
--     going_on      once its pair was synced the store holds what it held
--     accepts_none, sync_cut, swap_cut, accepts      what each way out does to what is told
use Rattle.std.proofs.Common.{◌≡◌, ◌≢◌, inl, inr, ℕ, ◌-◌, ◌<◌, ◌≤◌, List, [], Option, Some, None, drop, length, map, refl, sym, ◌∙◌, ap, subst, arith}
use Rattle.std.specs.Prelude.{Result, Ok, Err, IsErrAnd, IfSome, IsSome, IsSomeAnd, is_some, slice_get}
use Rattle.std.proofs.lemmas.Bool.{cases_lt, false≢true}
use Rattle.ip_base.specs.declared.limit.TheConstants.{OFFSET_MAX}
use Rattle.ip_base.specs.declared.limit.Limit.{Limit}
use Rattle.ip_ground.specs.declared.names.FileName.{FileName}
use Rattle.ip_ground.specs.declared.names.FileName.TheVariants.{Control, Chunk, Prefix, Mapping}
use Rattle.ip_ground.specs.declared.names.GroundFault.{GroundFault}
use Rattle.ip_base.specs.declared.exit.Reaped.{Reaped}
use Rattle.ip_ground.specs.Counts.{Noted, CountsIf, DamageFound, FileFault}
use Rattle.ip_ground.specs.Contents.{Content, Image}
use Rattle.ip_ground.specs.Told.{Told, IsForeign, IsLoose, IsSynced, IsPossibleNow, IsSettledAs, KeepsFile, NoFile, Only}
use Rattle.ip_ground.proofs.Lending.{own_settled, settled_stays}
use Rattle.ip_ground.proofs.Spans.{only_nowhere}
use Rattle.ip_spec.specs.declared.record.Record.{Record}
use Rattle.ip_spec.specs.Repository.{Repository}
use Rattle.ip_spec.specs.Step.{collected_at}
use Rattle.ip_spec.specs.TreeAt.{Records}
use Rattle.ip_image.specs.declared.slot.Slot.{Slot}
use Rattle.ip_image.specs.Slot.{IsSlot, IsLive, slot_bytes}
use Rattle.ip_image.specs.declared.run.Run.{Run}
use Rattle.ip_image.specs.Virtual.{run_of, total, chunk_of, place_in_chunk, byte_of, chunk_byte}
use Rattle.ip_image.specs.Standing.{AreGood, Standing, StandsFor}
use Rattle.ip_image.specs.Collection.{Found, found_in, IsKept}
use Rattle.ip_image.specs.Collected.{remaining}
use Rattle.ip_image.specs.Pending.{HasLive, crash_at, crash_now, SameSpace, LeavesPair, NothingPending, AllFlushed}
use Rattle.ip_image.specs.Headline.{IsAtomic, RecoversTo, RecoversToEither}
use Rattle.ip_image.proofs.CoreTies.{image_rises, kept_among}
use Rattle.ip_image.proofs.HeadlineLaws.{none_pending, one_slot}
use Rattle.ip_image.proofs.OneRepository.{all_records}
use Rattle.ip_image.proofs.PairLaws.{Has}
use Rattle.ip_image.proofs.StayingRecords.{cut, good_at, present_has}
use Rattle.ip_image.proofs.SwapLaws.{stands_collected}
use Rattle.ip_control.specs.Live.{live_slot, live_of}
use Rattle.ip_control.specs.Changes.{control}
use Rattle.ip_control.proofs.LiveLaws.{is_live, live_from}
use Rattle.ip_space.specs.SpaceView.{SpaceView, bare, grown, records_of}
use Rattle.ip_keep.specs.Runs.{joined}
use Rattle.ip_check.specs.declared.check.Stage.TheVariants as Stage
use Rattle.ip_check.specs.CheckView.{CheckView}
use Rattle.ip_check.specs.Checking.{IsCheck, IsChecking, IsVerdict}
use Rattle.ip_held.specs.declared.collection.Collection.{Collection}
use Rattle.ip_collects.specs.declared.finishing.FinishFault.{FinishFault}
use Rattle.ip_held.specs.declared.held.Held.{Held}
use Rattle.ip_collects.specs.declared.swapping.Swap.{Swap}
use Rattle.ip_held.specs.Collecting.{IsPhase, HasEnded, IsOfChild, Collects, until}
use Rattle.ip_held.specs.Control.{control_in}
use Rattle.ip_collects.specs.CollectFaults.{counted_finish}
use Rattle.ip_collects.specs.Finishing.{IsUndamaged, Serves}
use Rattle.ip_collects.specs.Judging.{IsCheckOf, IsRootless, IsRootlessIn, IsThrough}
use Rattle.ip_held.specs.Placed.{places_in, AreRising}
use Rattle.ip_publish.specs.Publishing.{TurnsGate}
use Rattle.ip_held.specs.StandsBy.{LeavesStill, LeavesSwapped, StandsBy}
use Rattle.ip_held.specs.Held.{IsOf, OwnsPair, Holds}
use Rattle.ip_collects.specs.Swapping.{Accepts, AcceptsAs, IsSwap, IsSwapFault, IsTurnedDown, RefusesSwap, SwapsTables, SyncsPair, turned_down}
use Rattle.ip_held.specs.Slots.{IsNext, KeepsSlots}
use Rattle.ip_held.specs.Sweeping.{IsApart, EndsFor, KeepsFiles}
use Rattle.ip_held.proofs.Apart.{holds_apart, list_apart, live_apart, recovers_apart, pending_apart, flushed_apart, leaves_apart}
use Rattle.ip_collects.proofs.Cancels.{over, held_idle, other, below}
use Rattle.ip_collects.proofs.Ended.{ends_only, ends_more, ends_on}
use Rattle.ip_collects.proofs.FinishSpans.{atomic_front, atomic_still}
use Rattle.ip_collects.proofs.HeldPair.{HasPair, pair_stays, pair_found, rows_of_pair}
use Rattle.ip_held.proofs.Going.{phase_here, going_here, collects_here}
use Rattle.ip_collects.proofs.Judged.{kept_check, has_ended, over_here}
use Rattle.ip_held.proofs.KeptFiles.{keeps_itself, keeps_on, keeps_store}
use Rattle.ip_held.proofs.LeftImages.{by_same, swapped_front, swapped_none, swapped_still}
use Rattle.ip_held.proofs.Listed.{none_current, same_slot}
use Rattle.ip_held.proofs.Recovering.{in_image, held_has, recovers_now}
use Rattle.ip_held.proofs.Remaining.{remaining_places}
use Rattle.ip_held.proofs.SlotLaws.{slots_ends, slots_none, slots_then, slots_turned}
use Rattle.ip_held.proofs.Stepping.{none_since}
use Rattle.ip_collects.proofs.Swapped.{few_bytes, few_rows, check_of, swapped_is}
use Rattle.ip_collects.proofs.SwapStep.{Swaps, either_left, either_stands, both_at}

-- ---- before anything is called

-- the check that is through
pub check_through : (c : Collection) → IsThrough (Some c) → (check : CheckView) × (c.check ≡ Some check) × (check.stage ≡ Stage.Through None)
check_through c is = by c.check refl is
  where
    by : (k : Option CheckView) → c.check ≡ k → IsSomeAnd k (λ check. check.stage ≡ Stage.Through None) → (check : CheckView) × (c.check ≡ Some check) × (check.stage ≡ Stage.Through None)
    by None e is = absurd is
    by (Some check) e is = (check, e, is)

pub runs_through : (o : Option Collection) → IsThrough o → (c : Collection) × (o ≡ Some c)
runs_through None is = absurd is
runs_through (Some c) is = (c, refl)

-- ---- the swap was not planned

pub refused_so : (store : Held) (c : Collection) (fault : FinishFault) → RefusesSwap store c fault → IsSwapFault fault
refused_so store c FinishFault.Idle refused = absurd refused
refused_so store c FinishFault.Wait refused = absurd refused
refused_so store c (FinishFault.Rejected rejection) refused = absurd refused
refused_so store c (FinishFault.Limit limit) refused = by limit refused
  where
    by : (limit : Limit) → RefusesSwap store c (FinishFault.Limit limit) → IsSwapFault (FinishFault.Limit limit)
    by Limit.Sequence refused = tt
    by _ refused = absurd refused
refused_so store c (FinishFault.Damaged at) refused = tt
refused_so store c FinishFault.Ground refused = absurd refused
refused_so store c FinishFault.Memory refused = tt

-- what becomes of the tables
pub refused_tables : (store : Held) (r : Repository) (c : Collection) (fault : FinishFault) → RefusesSwap store c fault → Accepts (Err fault) r c store (turned_down fault store)
refused_tables store r c FinishFault.Idle refused = refl
refused_tables store r c FinishFault.Wait refused = refl
refused_tables store r c (FinishFault.Rejected rejection) refused = refl
refused_tables store r c (FinishFault.Limit limit) refused = (refl, by limit refused)
  where
    by : (limit : Limit) → RefusesSwap store c (FinishFault.Limit limit) → store.slot.sequence ≡ OFFSET_MAX
    by Limit.Sequence refused = refused
    by _ refused = absurd refused
refused_tables store r c (FinishFault.Damaged at) refused = refl
refused_tables store r c FinishFault.Ground refused = refl
refused_tables store r c FinishFault.Memory refused = refl

-- memory is wanted only where the sequence goes on
pub refused_sequence : (store : Held) (c : Collection) (fault : FinishFault) → RefusesSwap store c fault → ◌≡◌ {A = Result (Unit {0}) FinishFault} (Err fault) (Err FinishFault.Memory) → store.slot.sequence < OFFSET_MAX
refused_sequence store c fault refused is = (let same : fault ≡ FinishFault.Memory = cc (is) in subst (RefusesSwap store c) same refused)

-- and no fault of the ground is among them
pub refused_room : (store : Held) (c : Collection) (fault : FinishFault) → RefusesSwap store c fault → ◌≡◌ {A = Result (Unit {0}) FinishFault} (Err fault) (Err FinishFault.Ground) → store.slot.sequence < OFFSET_MAX
refused_room store c fault refused is = (let same : fault ≡ FinishFault.Ground = cc (is) in absurd (subst (RefusesSwap store c) same refused))

-- and of what is counted
pub refused_counts : (store : Held) (c : Collection) (fault : FinishFault) (k l : Noted) → RefusesSwap store c fault → (IsUndamaged {A = Unit {0}} (Err fault) → l ≡ k) → ((¬ IsUndamaged {A = Unit {0}} (Err fault)) → DamageFound k l) → CountsIf (counted_finish fault) k l
refused_counts store c FinishFault.Idle k l refused same found = same tt
refused_counts store c FinishFault.Wait k l refused same found = same tt
refused_counts store c (FinishFault.Rejected rejection) k l refused same found = same tt
refused_counts store c (FinishFault.Limit limit) k l refused same found = same tt
refused_counts store c (FinishFault.Damaged at) k l refused same found = found (λ none. none)
refused_counts store c FinishFault.Ground k l refused same found = absurd refused
refused_counts store c FinishFault.Memory k l refused same found = same tt

-- where nothing was called no damage was found
pub turned_safe : (fault : FinishFault) → IsTurnedDown (Err fault) → IsUndamaged {A = Unit {0}} (Err fault)
turned_safe (FinishFault.Damaged at) is = is
turned_safe _ is = tt

rootless : (c : Collection) (at : ℕ) → at ≡ 0 → c.job.horizon ≡ 0 → IsThrough (Some c) → IsRootlessIn (Some c) at
rootless c at zero horizon through = by c.check through
  where
    by : (check : Option CheckView) → IsSomeAnd check (λ k. k.stage ≡ Stage.Through None) → IsSomeAnd check (λ k. IsRootless c.job.horizon k at)
    by None is = absurd is
    by (Some k) is = (zero, horizon, is)

-- damage that is found here is that of the commit's record
pub refused_rootless : (store now : Held) (c : Collection) (fault : FinishFault) → store.collection ≡ Some c → IsThrough store.collection → now ≡ turned_down fault store → RefusesSwap store c fault → (at : ℕ) → fault ≡ FinishFault.Damaged at → IsRootlessIn now.collection at
refused_rootless store now c fault runs through is refused at damaged =
    let (zero, horizon) = subst (RefusesSwap store c) damaged refused in
    let still : now ≡ store = is ∙ ap (λ (f : FinishFault). turned_down f store) damaged in
    subst (λ (o : Option Collection). IsRootlessIn o at) (sym (ap (λ (s : Held). s.collection) still ∙ runs)) (rootless c at zero horizon (subst IsThrough runs through))

-- ---- the swap was made

pub accepts_tables : (store now : Held) (r : Repository) (c : Collection) (check : CheckView) (swap : Swap) → IsSwap store c check swap → SwapsTables swap store now → IsOf now (collected_at r c.commit) → Accepts (Ok tt) r c store now
accepts_tables store now r c check swap is tables of = (of, tables.collection, total (joined check.keep.kept), length (joined check.keep.kept), tables.slot ∙ is.slot, tables.unswept, is.sequence)

-- its slot is one
pub slot_of_swap : (store : Held) (r : Repository) (c : Collection) (check : CheckView) (swap : Swap) → IsOf store r → store.collection ≡ Some c → c.check ≡ Some check → IsSwap store c check swap → IsSlot swap.slot
slot_of_swap store r c check swap of runs kept is =
    let going = going_here store r c runs of in
    let keep = (check_of store r of c runs check kept).0.keep in
    subst IsSlot (sym is.slot) (swapped_is store.slot store.unswept c r (total (joined check.keep.kept)) (length (joined check.keep.kept)) of.slot of.unswept (phase_here store r c runs of) of.floor of.next going.drawn is.sequence is.above
    (few_bytes check.keep keep) (few_rows check.keep keep))

-- ---- once its child has ended

of_ended : (told : Told) (records : Records) (c : Collection) (exit : Option Reaped) → IsSome exit → HasEnded told records c → IsOfChild told records c exit
of_ended told records c None some is = absurd (false≢true some)
of_ended told records c (Some reaped) some is = is

as_err : (result : Result (Unit {0}) FinishFault) (P : FinishFault → Type 0) (X : Result (Unit {0}) FinishFault → Type 0) → IsErrAnd result P → ((fault : FinishFault) → X (Err fault)) → X result
as_err (Ok u) P X err each = absurd err
as_err (Err fault) P X err each = each fault

-- ---- what a store holds of a collection

module _ (store : Held) (r : Repository) (a : Told) (held : Holds store a r) (c : Collection) (runs : store.collection ≡ Some c) where
  abbrev A : Standing a.held
  A = held.stands.standing

  abbrev n : ℕ
  n = c.job.attempt

  phase : IsPhase store.slot r c
  phase = phase_here store r c runs held.tables

  collects : Collects a store.slot A.records r c
  collects = collects_here store r c runs a held

  has : HasLive store.slot a.held
  has = held_has store r a held

  above : store.slot.horizon ≤ c.job.horizon
  above = let low = phase.told.valid.horizon in let old = phase.told.old_horizon in omega (arith, low, old)

  order : c.job.horizon < c.job.end
  order = phase.told.valid.some

  inside : c.job.end ≤ store.slot.end
  inside = phase.told.end

  some : c.job.attempt ≢ 0
  some none = let low = phase.told.valid.attempt in absurd (omega (arith, low, none))

  -- its root lies below the commit
  commit_above : 0 < c.job.horizon
  commit_above =
      let x : ℕ × Record = (c.job.horizon, Record.Commit collects.collectable.commit) in
      let there = present_has A.records c.job.horizon (Record.Commit collects.collectable.commit) collects.collectable.here in
      let under = (good_at A.slot A.records (image_rises a.held A) A.good (c.job.horizon, Record.Commit collects.collectable.commit) (cut A.records (c.job.horizon, Record.Commit collects.collectable.commit) there)).fits.root_below in
      omega (arith, under)

  pub undamaged : (fault : FinishFault) → RefusesSwap store c fault → IsUndamaged {A = Unit {0}} (Err fault)
  undamaged FinishFault.Idle refused = tt
  undamaged FinishFault.Wait refused = tt
  undamaged (FinishFault.Rejected rejection) refused = tt
  undamaged (FinishFault.Limit limit) refused = tt
  undamaged (FinishFault.Damaged at) refused = (let zero = refused.1 in let some = commit_above in absurd (omega (arith, zero, some)))
  undamaged FinishFault.Ground refused = tt
  undamaged FinishFault.Memory refused = tt

  -- nothing was called
  pub accepts_none : (fault : FinishFault) (now : Held) → AcceptsAs held.stands.standing.records r c (Err fault) now a a
  accepts_none fault now = record {
    only = ends_only n (Only Control) a a (only_nowhere a (Only Control)) (keeps_itself a);
    files = keeps_itself a;
    holds = tt;
    serves = tt;
    remains = λ q holds. tt;
    atomic = λ pending t late le. absurd (omega (arith, late, le));
    slots = λ pending. slots_none a;
    leaves = λ pending. swapped_none held.stands.standing.records c a;
    nothing_pending = λ pending. tt;
    flushed = λ pending. (recovers_now store r a held pending).flushed;
  }

  -- ---- the pair is synced

  module _ (b : Told) (changes : EndsFor n NoFile a b) where
    apart : (file : FileName) → NoFile file → IsApart store.slot file
    apart file none = absurd none

    idle_then : Holds (over store store.unswept) b r
    idle_then = holds_apart (over store store.unswept) r a (held_idle store r a held c runs) refl n (other store r a held c runs) (below store r a held c runs) NoFile apart b changes.beside

    pub same_records : (B : Standing b.held) → B.records ≡ A.records
    same_records B =
        list_apart (over store store.unswept) r a (held_idle store r a held c runs) refl n (other store r a held c runs) (below store r a held c runs) NoFile apart b changes.beside B
        ∙ all_records a.held (held_idle store r a held c runs).stands.standing A

    pub live_then : (s : Slot) → HasLive s a.held → HasLive s b.held
    live_then = live_apart (over store store.unswept) r a (held_idle store r a held c runs) refl n (other store r a held c runs) (below store r a held c runs) NoFile apart b changes.beside

    module _ (pending : NothingPending a) where
      pub pending_then : NothingPending b
      pending_then = pending_apart (over store store.unswept) r a (held_idle store r a held c runs) refl n (other store r a held c runs) (below store r a held c runs) NoFile apart b changes.beside pending

      flushed_then : AllFlushed (crash_now b)
      flushed_then = flushed_apart (over store store.unswept) r a (held_idle store r a held c runs) refl n (other store r a held c runs) (below store r a held c runs) NoFile apart b changes.beside pending

      pub recovers_at : (t : ℕ) → a.moment < t → t ≤ b.moment → RecoversTo (crash_at b t) r
      recovers_at = recovers_apart (over store store.unswept) r a (held_idle store r a held c runs) refl n (other store r a held c runs) (below store r a held c runs) NoFile apart b changes.beside pending

      pub leaves_then : LeavesStill held.stands.standing.records a b
      leaves_then = leaves_apart (over store store.unswept) r a (held_idle store r a held c runs) refl n (other store r a held c runs) (below store r a held c runs) NoFile apart b changes.beside pending

    stopped : (fault : FinishFault) (now : Held) → KeepsFiles a b → AcceptsAs held.stands.standing.records r c (Err fault) now a b
    stopped fault now files = record {
      only = ends_more n NoFile a b (Only Control) (λ file none. absurd none) changes;
      files = files;
      holds = tt;
      serves = tt;
      remains = λ q holds. tt;
      atomic = λ pending. atomic_still r (collected_at r c.commit) a b (recovers_at pending);
      slots = λ pending. slots_ends a b held.kept NoFile (λ none. none) n changes;
      leaves = λ pending. swapped_still held.stands.standing.records c a b (leaves_then pending);
      nothing_pending = λ pending. tt;
      flushed = λ pending. flushed_then pending;
    }

  -- ---- a check is kept

  module _ (check : CheckView) (kept : c.check ≡ Some check) where
    exit : IsSome c.exit
    exit = (subst (λ (o : Option CheckView). IfSome o (λ check. IsCheck check × (check.job ≡ c.job) × (check.keep.space ≡ bare (grown store.space c.job.end)) × IsSome c.exit)) kept (going_here store r c runs held.tables).check).3

    of_check : IsCheckOf c store.space check
    of_check = subst (λ (o : Option CheckView). IfSome o (IsCheckOf c store.space)) kept (kept_check store r c runs exit held.tables)

    ended : HasEnded a A.records c
    ended = has_ended store r c runs exit a held

    pub pair_held : (stage : check.stage ≡ Stage.Through None) → IsVerdict (until c.job.end A.records) c.job (found_in a.held n) None → (swap : Swap) → IsSwap store c check swap
        → HasPair a.held A.records store.slot swap.slot c (joined check.keep.kept)
    pair_held stage verdict swap is =
        pair_found a.held A store.slot swap.slot store.unswept c check of_check.check of_check.job stage (let less = order in omega (arith, less)) (over_here store r c runs exit a held check of_check).whole
        (subst (λ (o : Option CheckView). IfSome o (IsChecking (until c.job.end A.records) (found_in a.held n))) kept ended.checked).keep verdict is.slot

    -- its pair is synced
    pub pair_syncs : (swap : Swap) → IsSwap store c check swap → (res : Result (Unit {0}) GroundFault) (b : Told) → ((files : Image) → IsSettledAs a swap.slot.live files → SyncsPair swap.slot.live res a b) → SyncsPair n res a b
    pair_syncs swap is res b does =
        let live : swap.slot.live ≡ n = ap (λ (s : Slot). s.live) is.slot in
        subst (λ (m : ℕ). SyncsPair m res a b) live (does ended.pair (subst (λ (m : ℕ). IsSettledAs a m ended.pair) (sym live) ended.settled))

    -- a fault cut that short
    pub sync_cut : (res : Result (Unit {0}) GroundFault) (b : Told) → SyncsPair n res a b → (result : Result (Unit {0}) FinishFault) (now : Held) (P : FinishFault → Type 0) → IsErrAnd result P → AcceptsAs held.stands.standing.records r c result now a b
    sync_cut res b sync result now P err = as_err result P (λ (x : Result (Unit {0}) FinishFault). AcceptsAs held.stands.standing.records r c x now a b) err (λ fault. stopped b sync.only fault now sync.files)

    module _ (b : Told) (sync : SyncsPair n (Ok tt) a b) where
      ended_then : HasEnded b A.records c
      ended_then = record {
        pair = ended.pair;
        settled = sync.settled ended.pair ended.settled;
        mapping = sync.mapping ∙ ended.mapping;
        prefix = sync.prefix ∙ ended.prefix;
        checked = subst (λ (f : Found). IfSome c.check (IsChecking (until c.job.end A.records) f)) (λ i. record { mapping = sym sync.mapping i; prefix = sym sync.prefix i }) ended.checked;
      }

      collects_then : Collects b store.slot A.records r c
      collects_then = record { kept = collects.kept; collectable = collects.collectable; border = collects.border; child = of_ended b A.records c c.exit exit ended_then }

      pub going_on : Holds store b r
      going_on = (let was = idle_then b sync.only in record {
        tables = held.tables;
        stands = was.stands;
        live = was.live;
        kept = was.kept;
        pair = was.pair;
        runs = was.runs;
        places = was.places;
        collects = subst (λ (o : Option Collection). IfSome o (Collects b store.slot was.stands.standing.records r)) (sym runs)
            (subst (λ (rs : Records). Collects b store.slot rs r c) (sym (same_records b sync.only was.stands.standing)) collects_then);
        current = was.current;
      })

-- ---- the gate of the next slot is opened

module _ (store : Held) (r : Repository) (b : Told) (held : Holds store b r) (c : Collection) (runs : store.collection ≡ Some c) (next : Slot) (next_is : IsSlot next) (list : List Run)
    (pair : HasPair b.held held.stands.standing.records store.slot next c list) where
  abbrev after : Repository
  after = collected_at r c.commit

  abbrev B : Standing b.held
  B = held.stands.standing

  swaps : Swaps store.slot next
  swaps = record {
    chunk = pair.swapped.chunk;
    end = pair.swapped.end;
    above = (let low = above store r b held c runs in let same = pair.swapped.horizon in omega (arith, low, same));
    attempts = pair.attempts;
  }

  served : next.live ≢ 0
  served none = some store r b held c runs (sym pair.swapped.live ∙ none)

  -- an image with the next slot and the bytes that it names
  collected : (image : Image) → HasLive next image → SameSpace next b.held image → (now : StandsFor image (collected_at r c.commit)) × (now.standing.records ≡ remaining c.job.horizon pair.valid.kept B.records)
  collected image live same =
      stands_collected b.held image r store.slot next c.commit c.job.horizon c.job.end c.job.attempt (collects store r b held c runs).kept (is_some c.exit) pair.pair held.stands (held_has store r b held) live
      (collects store r b held c runs).collectable (inside store r b held c runs) pair.valid pair.swapped
      (subst (λ (n : ℕ). image (Mapping n) ≡ b.held (Mapping n)) pair.swapped.live (same.mapping served) ∙ pair.mapping)
      (subst (λ (n : ℕ). image (Prefix n) ≡ b.held (Prefix n)) pair.swapped.live (same.prefix served) ∙ pair.prefix)
      (λ at low high. subst (λ (size : ℕ). chunk_byte size image at ≡ chunk_byte size b.held at) pair.swapped.chunk
      (same.chunks at (let h = pair.swapped.horizon in omega (arith, h, low)) (let end = pair.swapped.end in omega (arith, end, high))))

  swapped_by : (image : Image) → HasLive next image → SameSpace next b.held image → StandsBy (remaining c.job.horizon pair.valid.kept B.records) c.job.horizon image
  swapped_by image live same =
      let it = collected image live same in
      record { repository = after; stands = it.0; list = it.1; low = ap (λ (s : Slot). s.horizon) (same_slot image next live it.0.standing) ∙ pair.swapped.horizon }

  old_live : live_of (control b) ≡ live_slot store.index (slot_bytes store.slot)
  old_live = live_from (control b) store.index store.slot held.live

  -- both files are firm
  abbrev pub IsFirm : Told → Type 0
  IsFirm told = (IsSynced told (Mapping c.job.attempt) × IsSynced told (Prefix c.job.attempt)) × ((¬ IsLoose told (Mapping c.job.attempt)) × (¬ IsLoose told (Prefix c.job.attempt)))

  firm_pair : IsFirm b → LeavesPair (crash_now b) next.live b.held
  firm_pair firm = subst (λ (n : ℕ). LeavesPair (crash_now b) n b.held) (sym pair.swapped.live) (record { mapping = firm.0.0; prefix = firm.0.1; firm_mapping = firm.1.0; firm_prefix = firm.1.1 })

  module _ (d : Told) (res : Result (Unit {0}) GroundFault) (gate : TurnsGate (1 - store.index) next res b d) where
    pub either_at : IsFirm b → NothingPending b → (t : ℕ) → b.moment < t → t ≤ d.moment → RecoversToEither (crash_at d t) r (collected_at r c.commit)
    either_at firm pending t late le =
        either_stands (crash_at d t) store.index (1 - store.index) store.slot next b.held held.tables.slot next_is swaps
        (both_at b d store.index (1 - store.index) store.slot next gate.changes.only (held_has store r b held) old_live gate.live (firm_pair firm) pending t late le)
        r (collected_at r c.commit) held.stands (held_has store r b held) (λ image live same. (collected image live same).0)

    -- each image stands by the records that there were, or by those that remain
    pub left_at : IsFirm b → NothingPending b → LeavesSwapped held.stands.standing.records c b d
    left_at firm pending s has t late le image possible =
        let old = held_has store r b held in
        elim (either_left (crash_at d t) store.index (1 - store.index) store.slot next b.held held.tables.slot next_is swaps
        (both_at b d store.index (1 - store.index) store.slot next gate.changes.only old old_live gate.live (firm_pair firm) pending t late le) image possible) [
          | inl it ↦ inl (subst (λ (u : Slot). StandsBy held.stands.standing.records u.horizon image) (one_slot store.slot s b.held old has) (by_same b.held image store.slot r held.stands old it.0 it.1))
          | inr it ↦ inr (pair.valid.kept, pair.valid.each, swapped_by image it.0 it.1)
        ]

  -- ---- it is open

  module _ (d : Told) (gate : TurnsGate (1 - store.index) next (Ok tt) b d) (files : Image) (settled : IsSettledAs b c.job.attempt files) where
    mapping : KeepsFile b d (Mapping c.job.attempt)
    mapping = gate.changes.only.others (Mapping c.job.attempt) (λ is. cc (is))

    prefix : KeepsFile b d (Prefix c.job.attempt)
    prefix = gate.changes.only.others (Prefix c.job.attempt) (λ is. cc (is))

    own_mapping : ¬ IsForeign b (Mapping c.job.attempt)
    own_mapping = own_settled c.job.attempt b files (Mapping c.job.attempt) settled refl

    own_prefix : ¬ IsForeign b (Prefix c.job.attempt)
    own_prefix = own_settled c.job.attempt b files (Prefix c.job.attempt) settled refl

    chunk : (n : ℕ) → d.held (Chunk n) ≡ b.held (Chunk n)
    chunk n = (gate.changes.only.others (Chunk n) (λ is. cc (is))).held (λ x. x)

    space_then : SameSpace next b.held d.held
    unfolding chunk_byte
    space_then = record {
      chunks = λ at low high. ap (λ (content : Content). byte_of content (place_in_chunk next.chunk at)) (chunk (chunk_of next.chunk at));
      mapping = λ live. subst (λ (n : ℕ). d.held (Mapping n) ≡ b.held (Mapping n)) (sym pair.swapped.live) (mapping.held own_mapping);
      prefix = λ live. subst (λ (n : ℕ). d.held (Prefix n) ≡ b.held (Prefix n)) (sym pair.swapped.live) (prefix.held own_prefix);
    }

    has_then : HasLive next d.held
    has_then = in_image (1 - store.index) next d.held next_is gate.opens

    stands_then : (now : StandsFor d.held (collected_at r c.commit)) × (now.standing.records ≡ remaining c.job.horizon pair.valid.kept B.records)
    stands_then = collected d.held has_then space_then

    abbrev D : Standing d.held
    D = stands_then.0.standing

    good_then : AreGood next [] (remaining c.job.horizon pair.valid.kept B.records)
    good_then = subst (λ (rs : Records). AreGood next [] rs) stands_then.1 (subst (λ (s : Slot). AreGood s [] D.records) (same_slot d.held next has_then D) D.good)

    kept_below : (x : ℕ × Record) → Has pair.valid.kept x → x.0 < c.job.horizon
    kept_below x has = (kept_among B.slot B.records (image_rises b.held B) B.good c.job.horizon c.job.end pair.valid.kept pair.valid.each x has).1

    places_then : drop (c.commit - store.slot.floor) store.places ≡ places_in D.records
    places_then =
        ap (drop (c.commit - store.slot.floor)) held.places
        ∙ remaining_places next c.job.horizon (c.commit - store.slot.floor) store.slot.horizon pair.valid.kept B.records pair.swapped.horizon good_then kept_below
        (subst (AreRising store.slot.horizon) held.places held.tables.rising)
        (subst (λ (ps : List ℕ). slice_get ps (c.commit - store.slot.floor) ≡ Some c.job.horizon) held.places (going_here store r c runs held.tables).placed)
        ∙ ap places_in (sym stands_then.1)

    runs_then : list ≡ map run_of D.rows
    runs_then = rows_of_pair b.held d.held B.records store.slot next c list pair (some store r b held c runs)
        (let high = inside store r b held c runs in let less = order store r b held c runs in let end = held.tables.slot.ends in omega (arith, high, less, end))
        (order store r b held c runs) (inside store r b held c runs) (space_then.mapping served) has_then D

    -- the store holds what is left
    pub holds_then : (now : Held) → now.index ≡ 1 - store.index → now.slot ≡ next → now.space.runs ≡ list → now.space.kept ≡ [] → now.places ≡ drop (next.floor - store.slot.floor) store.places → now.collection ≡ None → IsOf now (collected_at r c.commit)
        → Holds now d (collected_at r c.commit)
    holds_then now index slot space kept places none tables = record {
      tables = tables;
      stands = stands_then.0;
      live = subst (λ (i : ℕ). IsLive (control_in d.held) i now.slot) (sym index) (subst (λ (s : Slot). IsLive (control_in d.held) (1 - store.index) s) (sym slot) (is_live (control d) (1 - store.index) next gate.opens next_is));
      kept = gate.kept;
      pair = subst (OwnsPair d) (sym slot) (λ live. record {
        mapping = subst (λ (n : ℕ). ¬ IsForeign d (Mapping n)) (sym pair.swapped.live) (mapping.own own_mapping);
        prefix = subst (λ (n : ℕ). ¬ IsForeign d (Prefix n)) (sym pair.swapped.live) (prefix.own own_prefix);
      });
      runs = space ∙ runs_then;
      places = places ∙ ap (λ (n : ℕ). drop (n - store.slot.floor) store.places) pair.swapped.floor ∙ places_then;
      collects = subst (λ (o : Option Collection). IfSome o (Collects d now.slot D.records (collected_at r c.commit))) (sym none) tt;
      current = none_current (records_of d now.space) now.space.kept kept;
    }

    -- by these records, whichever proof says that it stands
    pub remains_then : (now : Standing d.held) → now.records ≡ remaining c.job.horizon pair.valid.kept held.stands.standing.records
    remains_then now = all_records d.held now D ∙ stands_then.1

    pub serves_then : b.held (Mapping c.job.attempt) ≡ files (Mapping c.job.attempt) → b.held (Prefix c.job.attempt) ≡ files (Prefix c.job.attempt) → Serves d c.job.attempt
    serves_then was_mapping was_prefix = record {
      pair = files;
      settled = settled_stays c.job.attempt b d files (Only Control) settled gate.changes.only;
      mapping = mapping.held own_mapping ∙ was_mapping;
      prefix = prefix.held own_prefix ∙ was_prefix;
    }

-- ---- the whole call

module _ (store : Held) (r : Repository) (a : Told) (held : Holds store a r) (c : Collection) (runs : store.collection ≡ Some c) (check : CheckView) (kept : c.check ≡ Some check) (stage : check.stage ≡ Stage.Through None)
    (verdict : IsVerdict (until c.job.end held.stands.standing.records) c.job (found_in a.held c.job.attempt) None) (swap : Swap) (is : IsSwap store c check swap) (next_is : IsSlot swap.slot) (b : Told) (sync : SyncsPair c.job.attempt (Ok tt) a b) where
  then : Holds store b r
  then = going_on store r a held c runs check kept b sync

  abbrev list : List Run
  list = joined check.keep.kept

  pair_then : HasPair b.held then.stands.standing.records store.slot swap.slot c (joined check.keep.kept)
  pair_then = pair_stays a.held b.held held.stands.standing.records then.stands.standing.records store.slot swap.slot c (joined check.keep.kept) (same_records store r a held c runs b sync.only then.stands.standing) sync.mapping sync.prefix
      (pair_held store r a held c runs check kept stage verdict swap is)

  -- no attempt is drawn
  follows : IsNext store.slot swap.slot
  follows = (let same : swap.slot.next_attempt ≡ store.slot.next_attempt = ap (λ (s : Slot). s.next_attempt) is.slot in record {
    sequence = ap (λ (s : Slot). s.sequence) is.slot;
    drawn = omega (arith, same);
    one = omega (arith, same);
  })

  module _ (d : Told) (res : Result (Unit {0}) GroundFault) (gate : TurnsGate (1 - store.index) swap.slot res b d) where
    gate_files : KeepsFiles b d
    gate_files = keeps_store b d (Only Control) (λ file same. inl same) gate.changes.only

    only : EndsFor c.job.attempt (Only Control) a d
    only = ends_on c.job.attempt (Only Control) a b d (ends_more c.job.attempt NoFile a b (Only Control) (λ file none. absurd none) sync.only) (ends_only c.job.attempt (Only Control) b d gate.changes.only gate_files)

    files : KeepsFiles a d
    files = keeps_on a b d sync.files gate_files

    atomic : NothingPending a → IsAtomic a d r (collected_at r c.commit)
    atomic pending = atomic_front r (collected_at r c.commit) a b d gate.changes.only.goes (recovers_at store r a held c runs b sync.only pending)
        (either_at store r b then c runs swap.slot next_is (joined check.keep.kept) pair_then d res gate (sync.kept, sync.firm) (pending_then store r a held c runs b sync.only pending))

    leaves : NothingPending a → LeavesSwapped held.stands.standing.records c a d
    leaves pending = swapped_front held.stands.standing.records c a b d gate.changes.only.goes (live_then store r a held c runs b sync.only) (leaves_then store r a held c runs b sync.only pending)
        (subst (λ (rs : Records). LeavesSwapped rs c b d) (same_records store r a held c runs b sync.only then.stands.standing)
        (left_at store r b then c runs swap.slot next_is (joined check.keep.kept) pair_then d res gate (sync.kept, sync.firm) (pending_then store r a held c runs b sync.only pending)))

    slots : KeepsSlots a d
    slots = slots_then a b d held.kept (sync.only.beside.others Control (λ none. none) (λ of. of)) gate.changes.only.goes (slots_turned b d store.slot swap.slot (held_has store r b then) follows (1 - store.index) next_is res gate)

    flushed : NothingPending a → AllFlushed (crash_now d)
    flushed pending = elim (cases_lt a.moment d.moment) [
      | inl later ↦ (atomic pending d.moment later (omega arith)).flushed
      | inr still ↦ none_since a d only.beside.goes still (recovers_now store r a held pending).flushed
    ]

    -- a fault cut it short
    pub swap_cut : (result : Result (Unit {0}) FinishFault) (now : Held) (P : FinishFault → Type 0) → IsErrAnd result P → AcceptsAs held.stands.standing.records r c result now a d
    swap_cut result now P err = as_err result P (λ (x : Result (Unit {0}) FinishFault). AcceptsAs held.stands.standing.records r c x now a d) err (λ fault. record {
      only = only;
      files = files;
      holds = tt;
      serves = tt;
      remains = λ q holds. tt;
      atomic = atomic;
      slots = λ pending. slots;
      leaves = leaves;
      nothing_pending = λ pending. tt;
      flushed = flushed;
    })

  pub accepts : (d : Told) (gate : TurnsGate (1 - store.index) swap.slot (Ok tt) b d) → IsPossibleNow d → (now : Held) → SwapsTables swap store now → IsOf now (collected_at r c.commit) → AcceptsAs held.stands.standing.records r c (Ok tt) now a d
  accepts d gate possible now tables of =
      let was = ended_then store r a held c runs check kept b sync in
      let same = same_records store r a held c runs b sync.only then.stands.standing in
      record {
        only = only d (Ok tt) gate;
        files = files d (Ok tt) gate;
        holds = holds_then store r b then c runs swap.slot next_is (joined check.keep.kept) pair_then d gate was.pair was.settled now tables.index tables.slot (ap (λ (space : SpaceView). space.runs) (tables.space ∙ is.space)) (ap (λ (space : SpaceView). space.kept) (tables.space ∙ is.space)) tables.places tables.collection of;
        serves = serves_then store r b then c runs swap.slot next_is (joined check.keep.kept) pair_then d gate was.pair was.settled was.mapping was.prefix;
        remains = λ q holds. (
          pair_then.valid.kept,
          subst (λ (rs : Records). IsKept rs c.job.horizon c.job.end pair_then.valid.kept) same pair_then.valid.each,
          remains_then store r b then c runs swap.slot next_is (joined check.keep.kept) pair_then d gate was.pair was.settled holds.stands.standing ∙ ap (remaining c.job.horizon pair_then.valid.kept) same,
        );
        atomic = atomic d (Ok tt) gate;
        slots = λ pending. slots d (Ok tt) gate;
        leaves = leaves d (Ok tt) gate;
        nothing_pending = λ pending. none_pending d possible (flushed d (Ok tt) gate pending);
        flushed = flushed d (Ok tt) gate;
      }
