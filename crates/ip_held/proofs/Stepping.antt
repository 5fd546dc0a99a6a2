-- A durable step from a repository to the next one, whatever command takes it.
--     may_step      what the durable step asks.      changed, cut_short      the relation of a call that was made, and of one that a fault cut short
--     list_after, more_made, stays_made      the records of the image after it, those that stand behind the ones before it, and that these stay
--     same_tables, kept_holds, same_holds      a store with the same tables.      holds_still, still_holds      where no file was changed.      changes_none      the relation of a call that was refused
--     same_can_step, same_step      what a step asks and does, of a slot and bytes that are the same
use Rattle.std.proofs.Common.{◌≡◌, ◌≢◌, ◌⊎◌, inl, inr, ℕ, ◌+◌, ◌-◌, ◌<◌, ◌≤◌, List, [], ◌++◌, length, refl, sym, ◌∙◌, ap, subst, arith, length-append}
use Rattle.std.specs.Prelude.{Option, Some, IfSome, Result, Ok, Err, All, map}
use Rattle.std.specs.List.{AllByRecursion}
use Rattle.std.proofs.lemmas.Bool.{cases_lt}
use Rattle.std.proofs.lemmas.List.Elements.{filter_map-append, All-from_recursion}
use Rattle.ip_ground.specs.declared.names.FileName.{FileName}
use Rattle.ip_ground.specs.declared.names.FileName.TheVariants.{Control, Chunk, Mapping, Prefix}
use Rattle.ip_ground.specs.declared.names.GroundFault.{GroundFault}
use Rattle.ip_ground.specs.Contents.{Content, Image, Possible, bytes_of}
use Rattle.ip_ground.specs.Custody as custody
use Rattle.ip_ground.specs.Told.{Told, KeepsPast, NoFile, KeepsFile, ChangesOnly}
use Rattle.ip_ground.proofs.Durable.{kept_passes}
use Rattle.ip_ground.proofs.Spans.{only_nowhere, only_more, lending_now, at_most}
use Rattle.ip_spec.specs.Record.{Fits, IsHash}
use Rattle.ip_spec.specs.declared.record.Record.{Record}
use Rattle.ip_spec.specs.TreeAt.{Records, present}
use Rattle.ip_spec.specs.Batch.{AreEndToEnd}
use Rattle.ip_spec.specs.Repository.{Repository}
use Rattle.ip_image.specs.declared.slot.Slot.{Slot}
use Rattle.ip_image.specs.Slot.{IsSlot, IsLive, slot_bytes, layout_of}
use Rattle.ip_image.specs.Virtual.{chunk_of, place_in_chunk, byte_of, chunk_byte, run_of}
use Rattle.ip_image.specs.Standing.{Standing, StandsFor, AreRetained}
use Rattle.ip_image.specs.Pending.{HasLive, crash_at, crash_now, SameSpace, NothingPending, AllFlushed, KeepsSpace}
use Rattle.ip_image.specs.Appending.{AddsBytes, SameGeneration, bytes_of_records}
use Rattle.ip_image.specs.Headline.{IsAtomic, RecoversTo}
use Rattle.ip_image.proofs.HeadlineLaws.{one_slot, same_generation_itself, flushed_less}
use Rattle.ip_image.proofs.InChunk.{space_filled, lies_above, chunk_lies}
use Rattle.ip_image.proofs.OneRepository.{zero_or_not}
use Rattle.ip_image.proofs.AppendingLaws.{stands_still}
use Rattle.ip_image.proofs.RecordsOn.{records_go_on}
use Rattle.ip_image.proofs.SpelledCommits.{present_front}
use Rattle.ip_chunks.specs.Places.{chunk_start, NoGap}
use Rattle.ip_chunks.specs.Fronts.{Leaves}
use Rattle.ip_chunks.specs.Fronts as fronts
use Rattle.ip_chunks.proofs.Behind.{reaches_start}
use Rattle.ip_history.specs.History.{HasParentsFirst}
use Rattle.ip_control.specs.Live.{live_slot, live_of}
use Rattle.ip_control.specs.Changes.{control}
use Rattle.ip_control.proofs.LiveLaws.{is_live, live_from, spare_from, newer_from, reaches_from}
use Rattle.ip_held.specs.declared.collection.Unswept.{Unswept}
use Rattle.ip_held.specs.declared.fault.StoreFault.{StoreFault}
use Rattle.ip_held.specs.declared.held.Held.{Held}
use Rattle.ip_held.specs.Changes.{HasAnswer, Changes}
use Rattle.ip_held.specs.Collecting.{IsUnswept, Collects}
use Rattle.ip_publish.specs.Publishing.{front_in, CanStep, MakesStep, IsWritten, MayChange, IsOfStore}
use Rattle.ip_space.specs.SpaceView.{SpaceView, AreCurrent, OnlyReads, bare, grown, records_of}
use Rattle.ip_held.specs.Placed.{place_of, places_in, AreRising, IsSpaceOf}
use Rattle.ip_held.specs.Held.{IsOf, OwnsPair, Holds, SameTables, image_records}
use Rattle.ip_held.specs.Trees.{RecordsStay, OnlyLooks}
use Rattle.ip_held.proofs.Going.{going_to, collects_to, collects_still}
use Rattle.ip_held.proofs.Listed.{newest, same_rows, more_records, space_stays, pair_stays, same_list, same_records, holds_on, readable_of, current_behind}
use Rattle.ip_held.specs.Step.{AreNewest}
use Rattle.ip_held.proofs.NextSlot.{next_is, next_generation}
use Rattle.ip_held.proofs.SlotLaws.{written_store}
use Rattle.ip_held.specs.Step.{slot_behind, HasRoom}
use Rattle.ip_held.proofs.Phases.{phase_to}
use Rattle.ip_held.proofs.Reading.{own}
use Rattle.ip_held.proofs.Recovering.{in_image, recovers_now, pending_of, front_left, front_end, same_space, adds_bytes, IsOld, IsNew, flushed_step, SamePair, LeavesPairOf, same_pair, pair_alike, pair_left, pair_now}

-- ---- tables

pub itself : (store : Held) → SameTables store store
itself store = record { index = refl; slot = refl; names = refl; places = refl; branches = refl; history = refl; layout = refl; runs = refl; collection = refl; unswept = refl }

pub space_same : (s t : Slot) (one other : SpaceView) → t ≡ s → other ≡ one → IsSpaceOf s one → IsSpaceOf t other
space_same s t one other slot space is = subst (λ (u : Slot). IsSpaceOf u other) (sym slot) (subst (IsSpaceOf s) (sym space) is)

pub unswept_same : (s t : Slot) (one other : Unswept) → t ≡ s → other ≡ one → IsUnswept s one → IsUnswept t other
unswept_same s t one other slot same is = subst (λ (v : Slot). IsUnswept v other) (sym slot) (subst (IsUnswept s) (sym same) is)

pub within_same : (s t : Slot) (places other : List ℕ) → t ≡ s → other ≡ places → All (λ at. (s.horizon ≤ at) × (at < s.end)) places → All (λ at. (t.horizon ≤ at) × (at < t.end)) other
within_same s t places other slot same is =
    subst (λ (v : Slot). All (λ at. (v.horizon ≤ at) × (at < v.end)) other) (sym slot) (subst (All (λ at. (s.horizon ≤ at) × (at < s.end))) (sym same) is)

pub rising_same : (s t : Slot) (places other : List ℕ) → t ≡ s → other ≡ places → AreRising s.horizon places → AreRising t.horizon other
rising_same s t places other slot same is = subst (λ (v : Slot). AreRising v.horizon other) (sym slot) (subst (AreRising s.horizon) (sym same) is)

-- calls that change no file leave the bytes of all records, and the live pair to nobody else
still_space : (s : Slot) (a b : Told) → ChangesOnly NoFile a b → OwnsPair a s → SameSpace s a.held b.held
still_space s a b only owns = space_stays s a b (λ file. (only.others file (λ none. none)).held) owns

still_pair : (s : Slot) (a b : Told) → ChangesOnly NoFile a b → OwnsPair a s → OwnsPair b s
still_pair s a b only owns = pair_stays s a b (λ file. (only.others file (λ none. none)).own) owns

-- over calls that change no file a store holds what it held
pub holds_still : (store : Held) (r : Repository) (a b : Told) → ChangesOnly NoFile a b → Holds store a r → Holds store b r
holds_still store r a b only held = holds_on store a r held b ((only.others Control (λ none. none)).held (λ x. x)) (still_space store.slot a b only held.pair) (kept_passes Control own a b only held.kept) (still_pair store.slot a b only held.pair)
    (collects_still a b store.slot held.stands.standing.records r store.collection only.goes only.lending (λ file n of. only.others file (λ none. none)) held.collects)

module _ (store store' : Held) (same : SameTables store store') where
  -- whatever is kept
  same_bare : bare store'.space ≡ bare store.space
  same_bare = λ i. record { layout = same.layout i; runs = same.runs i; kept = [] }

  pub same_tables : (r : Repository) → IsOf store r → IsOf store' r
  same_tables r of = record {
    slot = subst IsSlot (sym same.slot) of.slot;
    index = subst (λ (i : ℕ). i < 2) (sym same.index) of.index;
    floor = of.floor ∙ ap (λ (s : Slot). s.floor) (sym same.slot);
    next = of.next ∙ ap (λ (s : Slot). s.next) (sym same.slot);
    names = of.names ∙ sym same.names;
    hashes = subst (All IsHash) (sym same.names) of.hashes;
    branches = of.branches ∙ sym same.branches;
    retained = subst (λ (s : Slot). AreRetained s r.branches) (sym same.slot) of.retained;
    history = of.history ∙ sym same.history;
    parents_first = subst HasParentsFirst (sym same.history) of.parents_first;
    space = record { layout = same.layout ∙ of.space.layout ∙ ap layout_of (sym same.slot); runs = λ none. same.runs ∙ of.space.runs (ap (λ (s : Slot). s.live) (sym same.slot) ∙ none) };
    placed = ap length same.places ∙ of.placed;
    phase = phase_to store.slot store'.slot r store.collection store'.collection same.slot same.collection of.phase;
    unswept = unswept_same store.slot store'.slot store.unswept store'.unswept same.slot same.unswept of.unswept;
    named = of.named;
    within = within_same store.slot store'.slot store.places store'.places same.slot same.places of.within;
    rising = rising_same store.slot store'.slot store.places store'.places same.slot same.places of.rising;
    going = going_to store.slot.floor store'.slot.floor store.places store'.places store.unswept store'.unswept store.space store'.space store.collection store'.collection (ap (λ (s : Slot). s.floor) same.slot) same.places same.unswept same_bare same.collection of.going;
  }

  -- where what is kept is current
  pub kept_holds : (r : Repository) (a : Told) → AreCurrent (records_of a store'.space) store'.space.kept → Holds store a r → Holds store' a r
  kept_holds r a current held = record {
    tables = same_tables r held.tables;
    stands = held.stands;
    live = subst (λ (i : ℕ). IsLive (bytes_of (a.held Control)) i store'.slot) (sym same.index) (subst (λ (s : Slot). IsLive (bytes_of (a.held Control)) store.index s) (sym same.slot) held.live);
    kept = held.kept;
    pair = subst (OwnsPair a) (sym same.slot) held.pair;
    runs = same.runs ∙ held.runs;
    places = same.places ∙ held.places;
    collects = collects_to a store.slot store'.slot held.stands.standing.records r store.collection store'.collection same.slot same.collection held.collects;
    current = current;
  }

  -- over a call that only reads
  pub still_holds : (r : Repository) (a b : Told) → OnlyReads a b store.space store'.space → Holds store a r → Holds store' b r
  still_holds r a b reads held = kept_holds r b (reads.readable (readable_of store r a held)).kept (holds_still store r a b reads.only held)

  -- by the same records
  pub still_list : (q r : Repository) (a b : Told) → ChangesOnly NoFile a b → (held : Holds store a q) (still : Holds store' b r) → still.stands.standing.records ≡ held.stands.standing.records
  still_list q r a b only held still = same_list store a q held b ((only.others Control (λ none. none)).held (λ x. x)) (still_space store.slot a b only held.pair) still.stands.standing

  pub still_records : (q r : Repository) (a b : Told) → ChangesOnly NoFile a b → (held : Holds store a q) (still : Holds store' b r) → image_records still ≡ image_records held
  still_records q r a b only held still = ap (λ (rs : Records). present rs) (still_list q r a b only held still)

  pub looks : (a b : Told) → OnlyReads a b store.space store'.space → OnlyLooks a b store store'
  looks a b reads = record {
    reads = reads;
    holds = λ r held. still_holds r a b reads held;
    records = λ r held still. still_records r r a b reads.only held still;
  }

  -- what was refused keeps each record
  pub stays_still : (q r : Repository) (a : Told) (held : Holds store a q) (still : Holds store' a r) → RecordsStay (image_records held) (image_records still)
  stays_still q r a held still at x is = subst (λ (f : ℕ → Option Record). f at ≡ Some x) (same_records a store store' q r held still) is

  -- and where nothing was fetched
  module _ (space : store'.space ≡ store.space) where
    pub same_holds : (r : Repository) (a : Told) → Holds store a r → Holds store' a r
    same_holds r a held = kept_holds r a (subst (λ (s : SpaceView). AreCurrent (records_of a s) s.kept) (sym space) held.current) held

-- what is so of the records however one of the two holds them is so of those that the other holds
pub carried : (store store' : Held) → SameTables store' store → store.space ≡ store'.space → (told : Told) (r : Repository) (P : (ℕ → Option Record) → Type 0) → ((held : Holds store told r) → P (image_records held)) → (now : Holds store' told r) → P (image_records now)
carried store store' back space told r P so now = let held = same_holds store' store back space r told now in subst P (same_records told store store' r r held now) (so held)

-- ---- the files

no_mapping : (n : ℕ) → ¬ IsOfStore (Mapping n)
no_mapping n is = elim is [ inl control ↦ cc (control) | inr chunk ↦ cc (chunk.2) ]

no_prefix : (n : ℕ) → ¬ IsOfStore (Prefix n)
no_prefix n is = elim is [ inl control ↦ cc (control) | inr chunk ↦ cc (chunk.2) ]

-- behind the horizon of a generation lies something; where none is live the horizon is 0
reached : (s : Slot) (image : Image) (A : Standing image) → HasLive s image → NoGap s.chunk image s.horizon s.end → NoGap s.chunk image (chunk_start s.chunk s.end) s.end
reached s image A has filled = by (zero_or_not s.live)
  where
    by : (s.live ≡ 0) ⊎ (s.live ≢ 0) → NoGap s.chunk image (chunk_start s.chunk s.end) s.end
    by (inl none) = let low = has.live.fields.none_live.0 none in λ at between. filled at (omega (arith, low), between.1)
    by (inr some) =
        let above = lies_above image (layout_of s) has.live.fields.horizon A.records (chunk_lies image s has A) some in
        reaches_start s.chunk s.horizon s.end has.live.fields.chunk image above filled

-- what a call may change is of the store
pub of_store : (image : Image) (file : FileName) → MayChange image file → IsOfStore file
of_store image file may = elim may [ inl control ↦ inl control | inr chunk ↦ inr (chunk.0.chunk, chunk.2.0, chunk.2.2) ]

-- what a crash leaves of bytes that an image has, place by place
chunks_left : (size from end : ℕ) (bytes : List ℕ) (told : Told) (image : Image) → from + length bytes ≡ end → Leaves size from bytes told → fronts.Holds size from bytes image
    → (at : ℕ) → from ≤ at → at < end → (content : Content) → told.may_leave told.moment (Chunk (chunk_of size at)) content → byte_of content (place_in_chunk size at) ≡ chunk_byte size image at
chunks_left size from end bytes told image ends left holds at low high content here =
    let place : from + (at - from) ≡ at = omega (arith, low) in
    let inside : at - from < length bytes = omega (arith, low, high, ends) in
    subst (λ (n : ℕ). told.may_leave told.moment (Chunk (chunk_of size n)) content → byte_of content (place_in_chunk size n) ≡ chunk_byte size image n) place
    (λ may. left (at - from) inside content may ∙ sym (holds (at - from) inside)) here

-- where no moment passed, nothing is pending that was not
pub none_since : (a b : Told) → KeepsPast a b → b.moment ≤ a.moment → AllFlushed (crash_now a) → AllFlushed (crash_now b)
none_since a b goes still flushed =
    let same : b.moment ≡ a.moment = omega (arith, still, goes.later) in
    flushed_less (crash_now a) (crash_now b) (λ file content left. subst (λ (t : ℕ). a.may_leave t file content) same (goes.left b.moment file content still left))
    (λ attempt. goes.lending b.moment attempt still ∙ ap (λ (t : ℕ). a.lending_at t attempt) same) flushed

-- The slot behind it may draw attempts.
module _ (r after : Repository) (store : Held) (attempt commits : ℕ) (bytes : List ℕ) (of : IsOf store r) (room : HasRoom store.slot attempt (length bytes) commits) (a : Told) (held : Holds store a r) where
  abbrev s : Slot
  s = store.slot

  abbrev next : Slot
  next = slot_behind store.slot store.unswept attempt (length bytes) commits

  generation : SameGeneration store.slot next
  generation = next_generation store.slot store.unswept attempt (length bytes) commits

  next_there : IsSlot next
  next_there = next_is store.slot store.unswept attempt (length bytes) commits of.slot of.unswept room

  old_live : live_of (control a) ≡ live_slot store.index (slot_bytes store.slot)
  old_live = live_from (control a) store.index store.slot held.live

  pub old_has : HasLive store.slot a.held
  old_has = in_image store.index store.slot a.held of.slot old_live

  other : store.index ≢ 1 - store.index
  other e = let two = of.index in absurd (omega (arith, e))

  filled : NoGap store.slot.chunk a.held store.slot.horizon store.slot.end
  filled at between = space_filled a.held store.slot old_has held.stands.standing at between.0 between.1

  pub may_step : CanStep store.slot.end (1 - store.index) next a
  may_step = record {
    above = of.slot.horizon;
    filled = filled;
    reaches = reached store.slot a.held held.stands.standing old_has filled;
    ready = record {
      kept = held.kept;
      reaches = reaches_from (control a) store.index (1 - store.index) store.slot held.live (omega arith) (λ e. other (sym e));
      spare = spare_from (control a) store.index (1 - store.index) store.slot held.live other;
    };
    newer = newer_from (control a) store.index next.sequence store.slot held.live (omega arith);
  }

  abbrev front : List ℕ
  front = front_in store.slot store.slot.end a.held

  front_leaves : NothingPending a → Leaves store.slot.chunk store.slot.horizon front a
  front_leaves pending = front_left store.slot of.slot.horizon a.held filled (a.may_leave a.moment) (pending.chunks store.slot old_has)

  pending_pair : NothingPending a → LeavesPairOf (crash_now a) store.slot a.held
  pending_pair pending = pending.pair store.slot old_has

  whole_end : store.slot.horizon + length (front ++ bytes) ≡ next.end
  whole_end = omega (arith, front_end store.slot of.slot.horizon a.held filled, length-append front bytes)

  stands_old : (image : Image) → live_of (image Control) ≡ live_slot store.index (slot_bytes store.slot) → SameSpace store.slot a.held image → StandsFor image r
  stands_old image live same = stands_still a.held image r store.slot store.slot held.stands old_has (in_image store.index store.slot image of.slot live) (same_generation_itself store.slot) refl refl same

  abbrev NewStands : Type 0
  NewStands = (image : Image) → HasLive next image → AddsBytes store.slot bytes a.held image → StandsFor image after

  has_next : (image : Image) → live_of (image Control) ≡ live_slot (1 - store.index) (slot_bytes next) → HasLive next image
  has_next image live = in_image (1 - store.index) next image next_there live

  abbrev Step : Told → Result (Unit {0}) GroundFault → Type 0
  Step b res = MakesStep store.slot.end bytes (1 - store.index) next res a b

  -- no file of an attempt is written
  unwritten : (b : Told) (res : Result (Unit {0}) GroundFault) → Step b res → (file : FileName) → ¬ IsOfStore file → KeepsFile a b file
  unwritten b res step file other = step.writes.only.others file (λ written. other (written_store store.slot.chunk store.slot.end (store.slot.end + length bytes) file written))

  mapping_stays : (b : Told) (res : Result (Unit {0}) GroundFault) → Step b res → KeepsFile a b (Mapping store.slot.live)
  mapping_stays b res step = unwritten b res step (Mapping store.slot.live) (no_mapping store.slot.live)

  prefix_stays : (b : Told) (res : Result (Unit {0}) GroundFault) → Step b res → KeepsFile a b (Prefix store.slot.live)
  prefix_stays b res step = unwritten b res step (Prefix store.slot.live) (no_prefix store.slot.live)

  -- so the live pair is left as it was
  pair_at : (b : Told) (res : Result (Unit {0}) GroundFault) → Step b res → NothingPending a → (t : ℕ) → a.moment < t → t ≤ b.moment → LeavesPairOf (crash_at b t) store.slot a.held
  pair_at b res step pending t late le live =
      pair_left a b store.slot.live (at_most a b (Mapping store.slot.live) (mapping_stays b res step)) (at_most a b (Prefix store.slot.live) (prefix_stays b res step)) (step.writes.only.lending store.slot.live) (pending_pair pending live) t late le

  pair_here : (b : Told) (res : Result (Unit {0}) GroundFault) → Step b res → SamePair store.slot a.held b.held
  pair_here b res step live = ((mapping_stays b res step).held (held.pair live).mapping, (prefix_stays b res step).held (held.pair live).prefix)

  drawn_at : (b : Told) (res : Result (Unit {0}) GroundFault) → Step b res → NothingPending a → (t : ℕ) → a.moment < t → t ≤ b.moment → (n : ℕ) → b.lending_at t n ≢ custody.own → n < store.slot.next_attempt
  drawn_at b res step pending t late le n some = pending.drawn store.slot old_has n (λ none. some (step.writes.only.lending n t late le ∙ none))

  -- each image has the old slot live and the same bytes, or the next slot and these behind them
  pub images_at : (b : Told) (res : Result (Unit {0}) GroundFault) → Step b res → NothingPending a → (t : ℕ) → a.moment < t → t ≤ b.moment → (image : Image) → Possible (b.may_leave t) image
      → IsOld store.index store.slot a.held image ⊎ IsNew (1 - store.index) store.slot next bytes a.held image
  images_at b res step pending t late le image possible =
      let pair = same_pair (crash_at b t) store.slot a.held image (pair_at b res step pending t late le) possible in
      elim (step.images (front_leaves pending) t image late le possible) [
        | inl old ↦ inl (old.0 ∙ old_live, same_space store.slot of.slot.horizon a.held filled image pair old.1)
        | inr new ↦ inr (new.0, adds_bytes store.slot of.slot.horizon a.held filled bytes image pair new.1)
      ]

  flushed_at : (b : Told) (res : Result (Unit {0}) GroundFault) → Step b res → NothingPending a → (t : ℕ) → a.moment < t → t ≤ b.moment → AllFlushed (crash_at b t)
  flushed_at b res step pending t late le =
      flushed_step (crash_at b t) store.index (1 - store.index) store.slot store.unswept attempt commits bytes a.held of.slot next_there other room.drawn (pair_at b res step pending t late le) (drawn_at b res step pending t late le) (images_at b res step pending t late le)

  -- whatever the answer is
  pub flushed_now : (b : Told) (res : Result (Unit {0}) GroundFault) → Step b res → NothingPending a → AllFlushed (crash_now b)
  flushed_now b res step pending = elim (cases_lt a.moment b.moment) [
    | inl later ↦ flushed_at b res step pending b.moment later (omega arith)
    | inr still ↦ none_since a b step.writes.only.goes still (recovers_now store r a held pending).flushed
  ]

  pub keeps_space : (b : Told) (res : Result (Unit {0}) GroundFault) → Step b res → NothingPending a → (u : Slot) → HasLive u a.held → KeepsSpace u a b
  keeps_space b res step pending u has t late le image possible =
      subst (λ (v : Slot). SameSpace v a.held image) (one_slot store.slot u a.held old_has has) (elim (images_at b res step pending t late le image possible) [ inl old ↦ old.1 | inr new ↦ new.1.same ])

  pub only_changes : (b : Told) (res : Result (Unit {0}) GroundFault) → Step b res → ChangesOnly (MayChange a.held) a b
  only_changes b res step = only_more a b (IsWritten store.slot.chunk store.slot.end (store.slot.end + length bytes)) (MayChange a.held) (λ file written. elim written [ inl control ↦ inl control | inr chunk ↦ inr (store.slot, old_has, (chunk.0, chunk.1.0, chunk.2)) ]) step.writes.only

  module _ (b : Told) (step : Step b (Ok tt)) where
    has_now : HasLive next b.held
    has_now = has_next b.held step.held.0

    pub adds_now : AddsBytes store.slot bytes a.held b.held
    adds_now = adds_bytes store.slot of.slot.horizon a.held filled bytes b.held (pair_here b (Ok tt) step) step.held.1

    -- the records before it are followed by others end to end, whatever these are
    pub more_made : (store' : Held) (q : Repository) (now : Holds store' b q) → (more : Records) × (now.stands.standing.records ≡ held.stands.standing.records ++ more) × AreEndToEnd store.slot.end more next.end
    more_made store' q now = more_records a.held b.held store.slot next old_has has_now generation held.stands.standing now.stands.standing (omega arith) adds_now.same

    -- so each record stays
    pub stays_made : (store' : Held) (q : Repository) (now : Holds store' b q) → RecordsStay (image_records held) (image_records now)
    stays_made store' q now place x there =
        let list = more_made store' q now in
        subst (λ (rs : Records). present rs place ≡ Some x) (sym list.1) (present_front held.stands.standing.records list.0 place x there)

  module _ (stands_new : NewStands) where
    atomic_of : (b : Told) (res : Result (Unit {0}) GroundFault) → Step b res → NothingPending a → IsAtomic a b r after
    atomic_of b res step pending t late le = record {
      stands = λ image possible. elim (images_at b res step pending t late le image possible) [
        | inl old ↦ inl (stands_old image old.0 old.1)
        | inr new ↦ inr (stands_new image (has_next image new.0) new.1)
      ];
      flushed = flushed_at b res step pending t late le;
    }

    -- it was made, of these records
    module _ (b : Told) (step : Step b (Ok tt)) where
      stands_now : StandsFor b.held after
      stands_now = stands_new b.held (has_now b step) (adds_now b step)

      module _ (more : Records) (fit : AreNewest more) (lie : AreEndToEnd store.slot.end more next.end) (spelled : bytes ≡ bytes_of_records more) where
        -- whichever proof says that it stands, each record of the image before is one of the image after
        pub list_after : (B : Standing b.held) → B.records ≡ held.stands.standing.records ++ more
        list_after B = records_go_on a.held b.held store.slot next more held.stands.standing B old_has (has_now b step) generation lie
            (All-from_recursion (λ (x : ℕ × Record). Fits next.version x.1) more (subst (λ (v : ℕ). AllByRecursion (λ (x : ℕ × Record). Fits v x.1) more) (sym (newest store.slot of.slot)) fit))
            (subst (λ (bs : List ℕ). AddsBytes store.slot bs a.held b.held) spelled (adds_now b step))

        module _ (store' : Held) (slot : store'.slot ≡ next) (index : store'.index ≡ 1 - store.index) (space : store'.space ≡ grown store.space next.end) (tables : IsOf store' after) (places : store'.places ≡ store.places ++ places_in more)
            (collects : (B : Standing b.held) → IfSome store'.collection (Collects b store'.slot B.records after)) where
          live_now : IsLive (bytes_of (b.held Control)) store'.index store'.slot
          live_now = subst (λ (i : ℕ). IsLive (bytes_of (b.held Control)) i store'.slot) (sym index)
              (subst (λ (u : Slot). IsLive (bytes_of (b.held Control)) (1 - store.index) u) (sym slot) (is_live (b.held Control) (1 - store.index) next step.held.0 next_there))

          holds : Holds store' b after
          holds = record {
            tables = tables;
            stands = stands_now;
            live = live_now;
            kept = step.kept;
            pair = subst (OwnsPair b) (sym slot) (λ live. record { mapping = (mapping_stays b (Ok tt) step).own (held.pair live).mapping; prefix = (prefix_stays b (Ok tt) step).own (held.pair live).prefix });
            runs = ap (λ (view : SpaceView). view.runs) space ∙ held.runs ∙ ap (map run_of) (sym (same_rows a.held b.held store.slot next old_has (has_now b step) generation held.stands.standing stands_now.standing (adds_now b step).same.mapping));
            places = places ∙ ap (λ (ps : List ℕ). ps ++ places_in more) held.places ∙ sym (filter_map-append place_of held.stands.standing.records more) ∙ ap places_in (sym (list_after stands_now.standing));
            collects = collects stands_now.standing;
            current = subst (λ (view : SpaceView). AreCurrent (records_of b view) view.kept) (sym space) (current_behind store.slot a.held b.held store.space next.end of.space (omega arith) (adds_now b step).same held.current);
          }

          pending_now : NothingPending a → NothingPending b
          pending_now pending = pending_of next b (has_now b step)
              (chunks_left store.slot.chunk store.slot.horizon next.end (front ++ bytes) b b.held whole_end (step.front (front_leaves pending)) step.held.1)
              (pair_alike (crash_now b) store.slot a.held b.held (pair_here b (Ok tt) step) (λ live. pair_now a b store.slot.live (at_most a b (Mapping store.slot.live) (mapping_stays b (Ok tt) step)) (at_most a b (Prefix store.slot.live) (prefix_stays b (Ok tt) step))
              (step.writes.only.lending store.slot.live) (pending_pair pending live) step.writes.only.goes))
              (λ n some. (let was = pending.drawn store.slot old_has n (λ none. some (lending_now a b step.writes.only.goes n (step.writes.only.lending n) ∙ none)) in let more = room.drawn in omega (arith, was, more)))

          pub changed : {A : Type 0} (x : A) → Changes r after (Ok x) store' a b
          changed x = record {
            only = only_changes b (Ok tt) step;
            refused = λ ref. absurd (cc (ref.0));
            ok = holds;
            atomic = atomic_of b (Ok tt) step;
            recovers = λ pending. recovers_now store' after b holds (pending_now pending);
            recovers_refused = λ pending ref. absurd (cc (ref.0));
            nothing_pending = λ pending some. pending_now pending;
            flushed = flushed_now b (Ok tt) step;
            space = keeps_space b (Ok tt) step;
          }

    -- a fault of the ground cut it short
    pub cut_short : {A : Type 0} (b : Told) (store' : Held) (res : Result (Unit {0}) GroundFault) → Step b res → Changes {A = A} r after (Err StoreFault.Ground) store' a b
    cut_short b store' res step = record {
      only = only_changes b res step;
      refused = λ ref. absurd (ref.1);
      ok = tt;
      atomic = atomic_of b res step;
      recovers = λ pending. tt;
      recovers_refused = λ pending ref. absurd (ref.1);
      nothing_pending = λ pending some. absurd some;
      flushed = flushed_now b res step;
      space = keeps_space b res step;
    }

-- it was refused, of a store with the same tables
pub changes_none : {A : Type 0} (r after : Repository) (fault : StoreFault) (store store' : Held) (a : Told)
    → SameTables store store' → store'.space ≡ store.space → Holds store a r → Changes {A = A} r after (Err fault) store' a a
changes_none r after fault store store' a same space held = record {
  only = only_nowhere a (MayChange a.held);
  refused = λ _. (only_nowhere a NoFile, same_holds store store' same space r a held);
  ok = tt;
  atomic = λ order t late le. absurd (omega (arith, late, le));
  recovers = λ order. tt;
  recovers_refused = λ order _ t low high.
      let now : t ≡ a.moment = omega (arith, low, high) in
      subst (λ (n : ℕ). RecoversTo (crash_at a n) r) (sym now) (recovers_now store r a held order);
  nothing_pending = λ order some. order;
  flushed = λ order. (recovers_now store r a held order).flushed;
  space = λ order u has t late le. absurd (omega (arith, late, le));
}

-- nothing was called
pub changes_still : {A : Type 0} (x : A) (r : Repository) (store : Held) (a : Told) → Holds store a r → Changes r r (Ok x) store a a
changes_still x r store a held = record {
  only = only_nowhere a (MayChange a.held);
  refused = λ ref. absurd (cc (ref.0));
  ok = held;
  atomic = λ order t late le. absurd (omega (arith, late, le));
  recovers = λ order. recovers_now store r a held order;
  recovers_refused = λ order ref. absurd (cc (ref.0));
  nothing_pending = λ order some. order;
  flushed = λ order. (recovers_now store r a held order).flushed;
  space = λ order u has t late le. absurd (omega (arith, late, le));
}

-- the same with another value, and as the fault of another call
pub with_value : {A B : Type 0} (x : A) (y : B) (r after : Repository) (store : Held) (a b : Told) → Changes r after (Ok x) store a b → Changes r after (Ok y) store a b
with_value x y r after store a b is = record {
  only = is.only;
  refused = λ ref. absurd (cc (ref.0));
  ok = is.ok;
  atomic = is.atomic;
  recovers = is.recovers;
  recovers_refused = λ order ref. absurd (cc (ref.0));
  nothing_pending = λ order some. is.nothing_pending order tt;
  flushed = is.flushed;
  space = is.space;
}

pub with_answer : (A B : Type 0) (fault : StoreFault) → HasAnswer {A = B} (Err fault) → HasAnswer {A = A} (Err fault)
with_answer A B (StoreFault.GivenUp number) has = tt
with_answer A B (StoreFault.HeadMoved name) has = tt
with_answer A B (StoreFault.Leaving number) has = tt
with_answer A B (StoreFault.Existing name) has = tt
with_answer A B (StoreFault.Limit limit) has = tt
with_answer A B StoreFault.Memory has = tt
with_answer A B StoreFault.Ground has = has
with_answer A B (StoreFault.Damaged at names) has = has

pub with_fault : {A B : Type 0} (fault : StoreFault) (r after : Repository) (store : Held) (a b : Told) → Changes {A = A} r after (Err fault) store a b → Changes {A = B} r after (Err fault) store a b
with_fault {A = A} {B = B} fault r after store a b is = record {
  only = is.only;
  refused = λ ref. is.refused (refl, with_answer A B fault ref.1);
  ok = tt;
  atomic = is.atomic;
  recovers = λ order. tt;
  recovers_refused = λ order ref. is.recovers_refused order (refl, with_answer A B fault ref.1);
  nothing_pending = λ order has. is.nothing_pending order (with_answer A B fault has);
  flushed = is.flushed;
  space = is.space;
}

pub same_can_step : (end end' index index' : ℕ) (slot slot' : Slot) (a : Told) → end ≡ end' → index ≡ index' → slot ≡ slot' → CanStep end' (1 - index') slot' a → CanStep end (1 - index) slot a
same_can_step end end' index index' slot slot' a ends indexes slots can =
    subst (λ (u : Slot). CanStep end (1 - index) u a) (sym slots) (subst (λ (i : ℕ). CanStep end (1 - i) slot' a) (sym indexes) (subst (λ (e : ℕ). CanStep e (1 - index') slot' a) (sym ends) can))

pub same_step : (end end' index index' : ℕ) (bytes bytes' : List ℕ) (slot slot' : Slot) (res : Result (Unit {0}) GroundFault) (a b : Told) → end ≡ end' → index ≡ index' → bytes ≡ bytes' → slot ≡ slot' → MakesStep end bytes (1 - index) slot res a b → MakesStep end' bytes' (1 - index') slot' res a b
same_step end end' index index' bytes bytes' slot slot' res a b ends indexes same slots step =
    subst (λ (u : Slot). MakesStep end' bytes' (1 - index') u res a b) slots
    (subst (λ (e : ℕ). MakesStep e bytes' (1 - index') slot res a b) ends (subst (λ bs. MakesStep end bs (1 - index') slot res a b) same (subst (λ (i : ℕ). MakesStep end bytes (1 - i) slot res a b) indexes step)))
