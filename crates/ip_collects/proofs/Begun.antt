-- How a collection begins: a table of the branches is made durable, and its attempt is lent.
--     cut_beside, lent_beside      no other file is touched
--     never_lent      the attempt that comes next was never lent before
--     begun_going, begins_collecting      what is kept of it, and what the swap asks of it
--     may_begin, begun_step      what taking the step asks, and where it leads.      begun_tables      the tables there
--     starts_cut      what was done where the step was cut short
--     starts_lent      behind it, once the attempt was lent, or that failed.      begun_list      the records then.      begun_front      what a crash leaves, by the core
use Rattle.std.proofs.Common.{◌≡◌, ◌≢◌, inl, inr, ℕ, ◌+◌, ◌-◌, ◌<◌, ◌≤◌, true, [], ◌∷◌, ◌++◌, length, None, refl, sym, ◌∙◌, ap, subst, arith, append-nil}
use Rattle.std.specs.Prelude.{All, OnOk, Result, Ok, Err, Some, IfSome, IsTrue, false, List, map, slice_get}
use Rattle.std.proofs.lemmas.Bool.{cases_lt}
use Rattle.ip_ground.specs.declared.names.FileName.{FileName}
use Rattle.ip_ground.specs.declared.names.FileName.TheVariants.{Control, Chunk, Mapping, Prefix}
use Rattle.ip_ground.specs.declared.names.GroundFault.{GroundFault}
use Rattle.ip_ground.specs.Calls.{Lends}
use Rattle.ip_ground.specs.Contents.{Image, Possible}
use Rattle.ip_ground.specs.Custody.{Custody, own, lent, settled}
use Rattle.ip_ground.specs.Told.{Told, lending, ChangesOnly, IsPossibleNow, NoFile}
use Rattle.ip_spec.specs.declared.event.Event.{Event}
use Rattle.ip_spec.specs.declared.event.Event.TheVariants as Event
use Rattle.ip_spec.specs.declared.record.Record.{Record}
use Rattle.ip_spec.specs.Core.{Core, CorePhase, CoreRun, core_of, with_phase}
use Rattle.ip_spec.specs.Record.{Names, spelling, spelling_of}
use Rattle.ip_spawn.specs.declared.job.Job.{Job}
use Rattle.ip_spec.specs.Map.{get}
use Rattle.ip_spec.specs.Path.{Bytes}
use Rattle.ip_spec.specs.Repository.{Repository, is_retained}
use Rattle.ip_spec.specs.Step.{held_branch}
use Rattle.ip_spec.specs.TreeAt.{Records}
use Rattle.ip_image.specs.Appending.{bytes_of_records}
use Rattle.ip_image.specs.Collected.{HasTable, IsCollectable, offsets_of}
use Rattle.ip_image.specs.Collection.{Pair, IsValid}
use Rattle.ip_image.proofs.CoreTies.{collection_starts, image_rises, some_valid}
use Rattle.ip_image.proofs.PairLaws.{Has, Rises}
use Rattle.ip_image.proofs.StayingRecords.{has_present, has_right}
use Rattle.ip_image.specs.declared.slot.Slot.{Slot}
use Rattle.ip_image.specs.Standing.{Standing, names_after}
use Rattle.ip_image.specs.Pending.{Crash, HasLive, crash_at, SameSpace, NothingPending, KeepsSpace}
use Rattle.ip_image.specs.Headline.{RecoversTo, RecoversToEither}
use Rattle.ip_image.specs.Virtual.{chunk_byte, chunk_of}
use Rattle.ip_image.proofs.HeadlineLaws.{one_slot}
use Rattle.ip_held.specs.declared.fault.StoreFault.{StoreFault}
use Rattle.ip_held.specs.declared.step.Entry.{Entry}
use Rattle.ip_collects.specs.declared.starting.CollectFault.{CollectFault}
use Rattle.ip_collects.specs.declared.starting.Start.{Start}
use Rattle.ip_held.specs.declared.held.Held.{Held}
use Rattle.ip_held.specs.Changes.{Changes}
use Rattle.ip_held.specs.Collecting.{IsAbove, IsGoing, Collects}
use Rattle.ip_held.specs.Fronts.{ComesOf, LeavesFront}
use Rattle.ip_publish.specs.Publishing.{IsOfStore, IsWritten, MayChange, WritesTo}
use Rattle.ip_held.specs.Placed.{IsCommitAt}
use Rattle.ip_held.specs.StandsBy.{StandsBy}
use Rattle.ip_held.specs.Step.{slot_behind, HasRoom, IsStep, MayTake, Took}
use Rattle.ip_held.specs.TableRecord.{branch_row, table_of}
use Rattle.ip_collects.specs.Starting.{begun, end_behind, IsBegun, IsStart, StartsCollection, new_collection}
use Rattle.ip_held.specs.Held.{IsOf, Holds, image_records, place_of_commit}
use Rattle.ip_held.specs.Sweeping.{IsApart, ChangesBeside, ChangesFor}
use Rattle.ip_held.specs.Tie.{IsCoreOf, IsTied, appending}
use Rattle.ip_held.proofs.Apart.{beside_for, for_only, for_lend, for_more, for_behind, holds_apart, leaves_apart, list_apart, recovers_apart, pending_apart, flushed_apart, space_apart}
use Rattle.ip_held.proofs.CommitPlaces.{commit_here, there_is}
use Rattle.ip_held.proofs.CoreAppends.{tied_behind}
use Rattle.ip_held.proofs.KeptFiles.{keeps_on, keeps_store, keeps_lent}
use Rattle.ip_held.proofs.Listed.{same_slot}
use Rattle.ip_held.proofs.LookedUp.{recovers_less}
use Rattle.ip_held.proofs.OneCore.{has_core, run_on}
use Rattle.ip_held.proofs.Phases.{DrawsNone}
use Rattle.ip_held.proofs.Recovering.{held_has}
use Rattle.ip_held.proofs.Renamed.{named_may, named_step, named_tables}
use Rattle.ip_held.proofs.SlotLaws.{same_byte, slots_on}
use Rattle.ip_held.proofs.StepFronts.{core_in}
use Rattle.ip_held.proofs.Stepping.{of_store}
use Rattle.ip_held.proofs.TableRecords.{all_heads, none_below, table_may, table_same, table_fits}

-- no other file is touched, whatever they are: the step was cut short, or behind it the attempt was lent, or that failed
pub cut_beside : (n : ℕ) (a b : Told) → ChangesOnly IsOfStore a b → ChangesFor n IsOfStore a b
cut_beside n a b only = for_only n IsOfStore a b only (keeps_store a b IsOfStore (λ file is. is) only)

pub lent_beside : (n : ℕ) (a b c : Told) (res : Result (Unit {0}) GroundFault) → ChangesOnly IsOfStore a b → Lends n res b c → ChangesFor n IsOfStore a c
lent_beside n a b c res only lends = for_behind n IsOfStore a b c only (keeps_store a b IsOfStore (λ file is. is) only) (for_more n NoFile IsOfStore b c (λ file none. absurd none) (for_lend n res b c lends))

-- for one of two that are the same
to_one : (crash : Crash) (r : Repository) → RecoversToEither crash r r → RecoversTo crash r
to_one crash r either = record { stands = λ image possible. elim (either.stands image possible) [ inl was ↦ was | inr is ↦ is ]; flushed = either.flushed }

-- each image that stands by the records of a store to which the core ran comes of it by these events and a stop
comes_run : (store : Held) (image : Image) (A : Standing image) (core mid : Core) (events : List Event) → IsCoreOf store A.records mid → CoreRun core events mid → (other : Image) → StandsBy A.records store.slot.horizon other → ComesOf core events other
comes_run store image A core mid events is run other by =
    let left : Core = core_of A.records store.slot.horizon CorePhase.idle in
    record {
      front = events;
      rest = [];
      all = append-nil events;
      left = left;
      is = core_in A.records store.slot.horizon other by;
      run = run_on core mid left events (Event.Crash ∷ []) run (left, ap (λ (x : Core). with_phase x CorePhase.idle) (sym is.core_is), refl);
    }

-- what the files read as behind a step has the bytes of the records that there were
space_now : (r after : Repository) (store now : Held) (a b : Told) → Holds store a r → Changes {A = Unit {0}} r after (Ok tt) now a b → NothingPending a → IsPossibleNow b → SameSpace store.slot a.held b.held
unfolding chunk_byte
space_now r after store now a b held changes pending possible = elim (cases_lt a.moment b.moment) [
  | inl later ↦ changes.space pending store.slot has b.moment later (omega arith) b.held possible
  | inr early ↦ record {
    chunks = λ at low high. pending.chunks store.slot has at low high (b.held (Chunk (chunk_of store.slot.chunk at))) (was early (Chunk (chunk_of store.slot.chunk at)));
    mapping = λ live. (pending.pair store.slot has live).mapping (b.held (Mapping store.slot.live)) (was early (Mapping store.slot.live));
    prefix = λ live. (pending.pair store.slot has live).prefix (b.held (Prefix store.slot.live)) (was early (Prefix store.slot.live));
  }
]
  where
    has : HasLive store.slot a.held
    has = held_has store r a held

    was : b.moment ≤ a.moment → (file : FileName) → a.may_leave a.moment file (b.held file)
    was early file =
        let later = changes.only.goes.later in
        let same : b.moment ≡ a.moment = omega (arith, early, later) in
        subst (λ (t : ℕ). a.may_leave t file (b.held file)) same (changes.only.goes.left b.moment file (b.held file) early (possible file))

-- the attempt that comes next was never lent
pub never_lent : (store : Held) (r : Repository) (a : Told) → Holds store a r → NothingPending a → lending a store.slot.next_attempt ≡ own
never_lent store r a held pending = by (lending a store.slot.next_attempt) refl
  where
    less : lending a store.slot.next_attempt ≢ own → store.slot.next_attempt < store.slot.next_attempt
    less some = pending.drawn store.slot (held_has store r a held) store.slot.next_attempt some

    by : (custody : Custody) → lending a store.slot.next_attempt ≡ custody → lending a store.slot.next_attempt ≡ own
    by own e = e
    by lent e = (let low = less (λ none. (let both = sym e ∙ none in absurd (cc (both)))) in absurd (omega (arith, low)))
    by (settled pair synced) e = (let low = less (λ none. (let both = sym e ∙ none in absurd (cc (both)))) in absurd (omega (arith, low)))

-- the collection goes on by the tables
pub begun_going : (r : Repository) (store : Held) (number : ℕ) (start : Start) → IsOf store r → IsStart r store number start → IsGoing start.slot.floor store.places store.unswept (begun store start).space (new_collection number start.job)
begun_going r store number start of is = record {
  placed = subst (λ (n : ℕ). slice_get store.places (number - n) ≡ Some start.job.horizon) (sym (ap (λ (s : Slot). s.floor) is.slot)) is.job.horizon;
  drawn = (let high = of.unswept.high in let drawn = is.job.attempt in omega (arith, high, drawn));
  check = tt;
}

-- what the swap asks of it, over records of which a table of the branches is the last
module _ (store : Held) (told : Told) (r : Repository) (now : Holds store told r) (number : ℕ) (retained : IsTrue (is_retained r number)) (free : held_branch r number ≡ None) (job : Job) (placed : place_of_commit store number ≡ Some job.horizon) (ends : job.end ≡ store.slot.end)
    (before : Records) (end : ℕ) (list : now.stands.standing.records ≡ before ++ (end, table_of r) ∷ []) (low : job.horizon ≤ end) where
  abbrev A : Standing told.held
  A = now.stands.standing

  rise : Rises A.records
  rise = image_rises told.held A

  commit_at : IsCommitAt (image_records now) number job.horizon (there_is r number retained).0
  commit_at = commit_here r number retained store told now job.horizon placed

  slot_here : A.slot ≡ store.slot
  slot_here = same_slot told.held store.slot (held_has store r told now) A

  valid : (pair : Pair) × IsValid A.records job.horizon A.slot.end pair
  valid = some_valid A.slot A.records rise A.good job.horizon A.slot.end

  heads : All (λ (e : Bytes × ℕ). commit_at.spelled.number ≤ e.1) r.branches.entries
  heads = all_heads (λ (n : ℕ). commit_at.spelled.number ≤ n) r.branches (λ name. subst (λ (m : ℕ). IfSome (get r.branches name) (λ n. m ≤ n)) (sym commit_at.spells.number) (none_below r number free name))

  table_there : HasTable job.horizon A.records
  table_there = record {
    at = end;
    rows = map branch_row r.branches.entries;
    above = low;
    here = has_present A.records (end, table_of r) rise (subst (λ (rs : Records). Has rs (end, table_of r)) (sym list) (has_right before ((end, table_of r) ∷ []) (end, table_of r) (inl refl)));
  }

  abbrev offsets : List ℕ
  offsets = offsets_of valid.1.kept

  collectable : IsCollectable A.records r store.slot.horizon number job.horizon job.end offsets false
  collectable = subst (λ (n : ℕ). IsCollectable A.records r store.slot.horizon n job.horizon job.end offsets false) commit_at.spells.number
      (subst (λ (e : ℕ). IsCollectable A.records r store.slot.horizon commit_at.spelled.number job.horizon e offsets false) (ap (λ (t : Slot). t.end) slot_here ∙ sym ends)
      (subst (λ (n : ℕ). IsCollectable A.records r n commit_at.spelled.number job.horizon A.slot.end offsets false) (ap (λ (t : Slot). t.horizon) slot_here)
      (collection_starts told.held A r commit_at.spelled job.horizon valid.1.kept false commit_at.here heads table_there valid.1.each)))

  pub begins_collecting : lending told job.attempt ≡ lent → Collects told store.slot A.records r (new_collection number job)
  begins_collecting is_lent = record { kept = offsets; collectable = collectable; border = inl ends; child = is_lent }

-- the bytes of one record
one_spelled : (at : ℕ) (x : Record) → bytes_of_records ((at, x) ∷ []) ≡ spelling x
unfolding spelling_of
one_spelled at x = append-nil (spelling x)

module _ (r : Repository) (store : Held) (number : ℕ) (start : Start) (of : IsOf store r) (is : IsStart r store number start) (idle : store.collection ≡ None) where
  abbrev table : Record
  table = table_of r

  abbrev attempt : ℕ
  attempt = store.slot.next_attempt + 1

  abbrev next : Slot
  next = slot_behind store.slot store.unswept attempt (length (spelling table)) 0

  slot_is : start.slot ≡ next
  slot_is = is.slot

  drawn : DrawsNone store.slot attempt store.collection
  drawn c some = let both = sym idle ∙ some in absurd (cc (both))

  above : IsAbove store.collection table
  above = subst (λ o. IsAbove o table) (sym idle) tt

  -- a table of the branches as they are changes nothing
  enters : store ≡ record store { branches = names_after Names.branches store.branches table }
  enters = λ i. record store { branches = (sym of.branches ∙ sym (ap (λ (q : Repository). q.branches) (table_same r))) i }

  -- ---- the step

  module _ (bytes : Bytes) (spelled : bytes ≡ start.bytes.items) where
    spells : bytes ≡ spelling table
    spells = spelled ∙ is.bytes

    to : start.slot ≡ slot_behind store.slot store.unswept attempt (length bytes) 0
    to = subst (λ (bs : Bytes). start.slot ≡ slot_behind store.slot store.unswept attempt (length bs) 0) (sym spells) slot_is

    room : HasRoom store.slot attempt (length bytes) 0
    room = subst (λ (bs : Bytes). HasRoom store.slot attempt (length bs) 0) (sym spells)
        (record { drawn = omega arith; one = omega arith; attempts = (let low = is.attempt in omega (arith, low)); ends = is.small; sequence = is.sequence; few = omega arith })

    pub may_begin : MayTake store bytes (record { slot = start.slot; entry = Entry.Nothing })
    may_begin = named_may r store of table (table_may r) (table_fits store r of) tt bytes spells start.slot attempt to room drawn above Entry.Nothing enters tt

    pub begun_tables : IsOf (begun store start) r
    begun_tables = subst (IsOf (begun store start)) (table_same r) (named_tables r store of table (table_may r) (table_fits store r of) tt bytes spells start.slot attempt to room drawn above Entry.Nothing enters)

    pub begun_step : (a : Told) (held : Holds store a r) → IsStep held r ((store.slot.end, table_of r) ∷ []) bytes (record { slot = start.slot; entry = Entry.Nothing })
    begun_step a held = subst (λ (q : Repository). IsStep held q ((store.slot.end, table) ∷ []) bytes (record { slot = start.slot; entry = Entry.Nothing })) (table_same r)
        (named_step r store of table (table_may r) (table_fits store r of) tt bytes spells start.slot attempt to room drawn above Entry.Nothing enters held)

  -- ---- what is told

  module _ (a : Told) (held : Holds store a r) where
    abbrev n : ℕ
    n = start.job.attempt

    abbrev more : Records
    more = (store.slot.end, table_of r) ∷ []

    abbrev TookBy : Result (Unit {0}) StoreFault → Held → Told → Type 0
    TookBy res now b = Took (λ (done : Unit {0}). true) held r more res now b

    -- the control file, and the chunks that hold the table
    abbrev These : FileName → Type 0
    These = IsWritten store.slot.chunk store.slot.end (end_behind r store.slot)

    one : (s : Slot) → HasLive s a.held → store.slot ≡ s
    one s has = one_slot store.slot s a.held (held_has store r a held) has

    writes_by : (now : Held) (b : Told) (res : Result (Unit {0}) StoreFault) → TookBy res now b → WritesTo store.slot.chunk store.slot.end (end_behind r store.slot) a b
    writes_by now b res took = subst (λ (bs : Bytes). WritesTo store.slot.chunk store.slot.end (store.slot.end + length bs) a b) (one_spelled store.slot.end table) took.writes

    -- behind the step no chunk changes
    written_for : (c : Told) → ChangesFor n These a c → (s : Slot) → HasLive s a.held → ChangesFor n (IsWritten s.chunk s.end (end_behind r s)) a c
    written_for c only s has = subst (λ (u : Slot). ChangesFor n (IsWritten u.chunk u.end (end_behind r u)) a c) (one s has) only

    behind_for : (c : Told) → ((at : ℕ) → end_behind r store.slot ≤ at → chunk_byte store.slot.chunk c.held at ≡ chunk_byte store.slot.chunk a.held at)
        → (s : Slot) → HasLive s a.held → (at : ℕ) → end_behind r s ≤ at → chunk_byte s.chunk c.held at ≡ chunk_byte s.chunk a.held at
    behind_for c same s has = subst (λ (u : Slot). (at : ℕ) → end_behind r u ≤ at → chunk_byte u.chunk c.held at ≡ chunk_byte u.chunk a.held at) (one s has) same

    fresh : NothingPending a → lending a n ≡ own
    fresh pending = subst (λ (k : ℕ). lending a k ≡ own) (sym is.job.attempt) (never_lent store r a held pending)

    -- a fault cut the step short
    pub starts_cut : (now : Held) (b : Told) (res : Result (Unit {0}) StoreFault) → res ≡ Err StoreFault.Ground → Took (λ (done : Unit {0}). true) held r ((store.slot.end, table_of r) ∷ []) res now b → StartsCollection {A = Unit {0}} r start.job.attempt (Err CollectFault.Ground) now a b
    starts_cut now b res cut step = (let took : TookBy (Err StoreFault.Ground) now b = subst (λ (x : Result (Unit {0}) StoreFault). TookBy x now b) cut step in record {
      only = for_only n (MayChange a.held) a b took.changes.only (keeps_store a b (MayChange a.held) (of_store a.held) took.changes.only);
      written = written_for b (for_only n These a b (writes_by now b (Err StoreFault.Ground) took).only (keeps_store a b (MayChange a.held) (of_store a.held) took.changes.only));
      behind = behind_for b (writes_by now b (Err StoreFault.Ground) took).behind;
      files = keeps_store a b (MayChange a.held) (of_store a.held) took.changes.only;
      holds = λ begins. absurd begins;
      lent = λ begins. absurd begins;
      fresh = fresh;
      slots = took.slots;
      recovers = λ pending t after le. to_one (crash_at b t) r (took.changes.atomic pending t after le);
      nothing_pending = λ pending begins. absurd begins;
      flushed = took.changes.flushed;
      space = took.changes.space;
      table = λ pending begins. absurd begins;
    })

    module _ (mid : Held) (b : Told) (done : Result (Unit {0}) StoreFault) (ok : done ≡ Ok tt) (taken : OnOk done (mid ≡ begun store start)) (step : Took (λ (done : Unit {0}). true) held r ((store.slot.end, table_of r) ∷ []) done mid b) (possible : IsPossibleNow b) where
      abbrev here : Held
      here = begun store start

      same : mid ≡ here
      same = subst (λ (x : Result (Unit {0}) StoreFault). OnOk x (mid ≡ here)) ok taken

      took : TookBy (Ok tt) here b
      took = subst (λ (m : Held). TookBy (Ok tt) m b) same (subst (λ (x : Result (Unit {0}) StoreFault). TookBy x mid b) ok step)

      holds : Holds here b r
      holds = took.changes.ok

      other : n ≢ start.slot.live
      other same =
          let live = ap (λ (s : Slot). s.live) slot_is in
          let below = of.slot.live in
          let attempt = is.job.attempt in
          absurd (omega (arith, same, live, below, attempt))

      below : n < start.slot.next_attempt
      below =
          let after = ap (λ (s : Slot). s.next_attempt) slot_is in
          let attempt = is.job.attempt in
          omega (arith, after, attempt)

      apart : (file : FileName) → NoFile file → IsApart start.slot file
      apart file none = absurd none

      pending_here : NothingPending a → NothingPending b
      pending_here pending = took.changes.nothing_pending pending tt

      tied_here : IsTied store held.stands.standing.records here holds.stands.standing.records (appending ((store.slot.end, table_of r) ∷ []))
      tied_here = tied_behind store here a b r r held holds refl (ap (λ (s : Slot). s.horizon) slot_is) more (took.list refl r holds) (refl, ap (λ (s : Slot). s.end) (sym slot_is))

      -- behind the step the attempt was lent, or that failed
      module _ (c : Told) (res : Result (Unit {0}) GroundFault) (lends : Lends start.job.attempt res b c) where
        only : ChangesFor n NoFile b c
        only = for_lend n res b c lends

        beside : ChangesBeside n NoFile b c
        beside = beside_for n NoFile b c only

        recovers : NothingPending a → (t : ℕ) → a.moment < t → t ≤ c.moment → RecoversTo (crash_at c t) r
        recovers pending t after le = elim (cases_lt b.moment t) [
          | inl late ↦ recovers_apart here r b holds idle n other below NoFile apart c beside (pending_here pending) t late le
          | inr early ↦ recovers_less (crash_at b t) (crash_at c t) r (λ file content left. lends.goes.left t file content early left) (λ attempt. lends.goes.lending t attempt early) (to_one (crash_at b t) r (took.changes.atomic pending t after early))
        ]

        space_on : NothingPending a → (t : ℕ) → b.moment < t → t ≤ c.moment → (image : Image) → Possible (c.may_leave t) image → SameSpace store.slot a.held image
        space_on pending t late le image left =
            let first = space_now r r store here a b held took.changes pending possible in
            let later = subst (λ (s : Slot). SameSpace s b.held image) slot_is
            (space_apart here r b holds idle n other below NoFile apart c beside (pending_here pending) start.slot (held_has here r b holds) t late le image left) in
            record {
              chunks = λ at low high. later.chunks at low (omega (arith, high)) ∙ first.chunks at low high;
              mapping = λ live. later.mapping live ∙ first.mapping live;
              prefix = λ live. later.prefix live ∙ first.prefix live;
            }

        keeps : NothingPending a → (u : Slot) → HasLive u a.held → KeepsSpace u a c
        keeps pending u has t after le image left = elim (cases_lt b.moment t) [
          | inl late ↦ subst (λ (v : Slot). SameSpace v a.held image) (one_slot store.slot u a.held (held_has store r a held) has) (space_on pending t late le image left)
          | inr early ↦ took.changes.space pending u has t after early image (λ file. lends.goes.left t file (image file) early (left file))
        ]

        pub begun_front : NothingPending a → LeavesFront store held.stands.standing.records (appending ((store.slot.end, table_of r) ∷ [])) a c
        begun_front pending core seen t after le image left = elim (cases_lt b.moment t) [
          | inl late ↦
              let (mid, there, closed) = has_core here b r holds in
              comes_run here b.held holds.stands.standing core mid (appending more) there (tied_here core mid seen there) image
              (leaves_apart here r b holds idle n other below NoFile apart c beside (pending_here pending) start.slot (held_has here r b holds) t late le image left)
          | inr early ↦ took.fronts pending core seen t after early image (λ file. lends.goes.left t file (image file) early (left file))
        ]

        -- what the child reads is what a crash leaves from the step on
        table_on : IsPossibleNow c → NothingPending a → (t : ℕ) → a.moment < t → t ≤ c.moment → c.lending_at t n ≡ lent → (image : Image) → Possible (c.may_leave t) image → SameSpace start.slot c.held image
        table_on now pending t after le is_lent image left = elim (cases_lt b.moment t) [
          | inl late ↦
              let keeps = space_apart here r b holds idle n other below NoFile apart c beside (pending_here pending) start.slot (held_has here r b holds) in
              let last = keeps c.moment (omega (arith, late, le)) (omega arith) c.held now in
              let then = keeps t late le image left in
              record {
                chunks = λ at low high. then.chunks at low high ∙ sym (last.chunks at low high);
                mapping = λ live. then.mapping live ∙ sym (last.mapping live);
                prefix = λ live. then.prefix live ∙ sym (last.prefix live);
              }
          | inr early ↦
              let both : lent ≡ own = sym is_lent ∙ lends.goes.lending t n early ∙ took.changes.only.lending n t after early ∙ fresh pending in
              absurd (cc (both))
        ]

        pub starts_lent : IsPossibleNow c → (result : Result (Unit {0}) CollectFault) → (IsBegun result → lending c start.job.attempt ≡ lent) → StartsCollection r start.job.attempt result mid a c
        starts_lent now result is_lent = subst (λ (m : Held). StartsCollection r start.job.attempt result m a c) (sym same) (record {
          only = for_behind n (MayChange a.held) a b c took.changes.only (keeps_store a b (MayChange a.held) (of_store a.held) took.changes.only) (for_more n NoFile (MayChange a.held) b c (λ file none. absurd none) only);
          written = written_for c (for_behind n These a b c (writes_by here b (Ok tt) took).only (keeps_store a b (MayChange a.held) (of_store a.held) took.changes.only) (for_more n NoFile These b c (λ file none. absurd none) only));
          behind = behind_for c (λ at high. same_byte store.slot.chunk store.slot.end (end_behind r store.slot) b c at ((only.others (Chunk (chunk_of store.slot.chunk at)) (λ none. none) (λ of. of)).held (λ x. x)) ∙ (writes_by here b (Ok tt) took).behind at high);
          files = keeps_on a b c (keeps_store a b (MayChange a.held) (of_store a.held) took.changes.only) (keeps_lent b c n res lends);
          holds = λ begins. holds_apart here r b holds idle n other below NoFile apart c beside;
          lent = is_lent;
          fresh = fresh;
          slots = λ pending. slots_on a b c held.kept possible took.changes.only.goes lends.goes (only.others Control (λ none. none) (λ of. of)) (took.slots pending);
          recovers = recovers;
          nothing_pending = λ pending begins. pending_apart here r b holds idle n other below NoFile apart c beside (pending_here pending);
          flushed = λ pending. flushed_apart here r b holds idle n other below NoFile apart c beside (pending_here pending);
          space = keeps;
          table = λ pending begins. table_on now pending;
        })

        -- whichever proof says that the image stands
        pub begun_list : (image : Standing c.held) → image.records ≡ held.stands.standing.records ++ (store.slot.end, table_of r) ∷ []
        begun_list image = list_apart here r b holds idle n other below NoFile apart c beside image ∙ took.list refl r holds
