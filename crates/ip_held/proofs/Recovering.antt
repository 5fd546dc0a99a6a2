-- What recovers to the repository that a store holds.
--     in_image      an image with this live slot has it.      held_has      a store's slot is live
--     recovers_at      whatever a crash leaves at a moment stands for the repository, while no file changes though it may be synced
--     recovers_now, recovers_since      of what a store holds: now, and while no file changes
--     recovers_from      from a moment on, when only the control file may be pending before
--     SamePair, same_pair      the live pair of an image that a crash leaves.      pair_left, pair_now      it is left, at a moment and now, while its files stay
--     front_left      a crash leaves the bytes of the records.      pending_of      and where it leaves these, nothing is pending
--     adds_bytes      an image that has them, and others behind them.      flushed_step      of a step from one live slot to the next nothing is pending, whichever it leaves
use Rattle.std.specs.Prelude.{if◌then◌else◌, slice_get}
use Rattle.std.proofs.Common.{◌≡◌, ◌≢◌, ◌⊎◌, inl, inr, ℕ, ◌+◌, ◌-◌, ◌<◌, ◌≤◌, Bool, true, false, List, ◌++◌, length, Some, None, refl, sym, ◌∙◌, ap, subst, arith}
use Rattle.std.proofs.lemmas.Bool.{cases_lt}
use Rattle.ip_ground.specs.declared.names.FileName.{FileName}
use Rattle.ip_ground.specs.declared.names.FileName.TheVariants.{Control, Chunk, Mapping, Prefix}
use Rattle.ip_ground.specs.Contents.{Content, Image, Leave, Possible, bytes_of}
use Rattle.ip_ground.specs.Custody as custody
use Rattle.ip_ground.specs.Custody.{Custody, own, is_same_file}
use Rattle.ip_ground.specs.Files.{same_file, file_itself}
use Rattle.ip_ground.specs.Told.{Told, lending, KeepsPast, KeepsFile, SyncsAtMost, KeepsCustody, Only, SyncsOnly}
use Rattle.ip_ground.proofs.Spans.{at_most, left_now, each_synced, lending_now}
use Rattle.ip_spec.specs.Repository.{Repository}
use Rattle.ip_image.specs.declared.slot.Slot.{Slot}
use Rattle.ip_image.specs.Slot.{IsSlot, IsLive, slot_bytes, live_index}
use Rattle.ip_image.specs.Virtual.{chunk_of, place_in_chunk, byte_of, chunk_byte}
use Rattle.ip_image.specs.Standing.{StandsFor}
use Rattle.ip_image.specs.Pending.{HasLive, Crash, crash_at, crash_now, SameChunks, SameSpace, LeavesChunks, LeavesPair, NothingPending, AllFlushed}
use Rattle.ip_image.specs.Appending.{AddsBytes}
use Rattle.ip_image.specs.Headline.{RecoversTo}
use Rattle.ip_image.proofs.HeadlineLaws.{flushed_image, recovers}
use Rattle.ip_chunks.specs.Places.{NoGap}
use Rattle.ip_chunks.specs.Fronts.{Holds}
use Rattle.ip_chunks.proofs.Bytes.{stands_behind, same_places}
use Rattle.ip_chunks.proofs.Behind.{front_holds, front_ends, holds_front}
use Rattle.ip_control.specs.Live.{Live, no_slot, live_slot, live_of}
use Rattle.ip_control.proofs.LiveLaws.{is_live}
use Rattle.ip_held.specs.declared.held.Held.{Held}
use Rattle.ip_held.specs.declared.collection.Unswept.{Unswept}
use Rattle.ip_publish.specs.Publishing.{front_in}
use Rattle.ip_held.specs.Held.{Holds as HoldsStore}
use Rattle.ip_held.specs.Step.{slot_behind}

none_live_of : (content : Content) → content ≡ None → live_of content ≡ no_slot
unfolding live_of live_index
none_live_of content e = ap live_of e

pub in_image : (i : ℕ) (s : Slot) (image : Image) → IsSlot s → live_of (image Control) ≡ live_slot i (slot_bytes s) → HasLive s image
in_image i s image fields live = by_content (image Control) refl
  where
    no_such : {X : Type 0} → no_slot ≡ live_slot i (slot_bytes s) → X
    no_such e = absurd (cc (e))

    by_content : (content : Content) → image Control ≡ content → HasLive s image
    by_content None e = no_such (sym (none_live_of (image Control) e) ∙ live)
    by_content (Some bytes) e = record { control = bytes; index = i; held = e; live = subst (λ c. IsLive (bytes_of c) i s) e (is_live (image Control) i s live fields) }

-- ---- while no file changes

-- the live pair is left as it was, at a moment and now, while its files and its custody stay
module _ (a b : Told) (n : ℕ) (mapping : SyncsAtMost a b (Mapping n)) (prefix : SyncsAtMost a b (Prefix n)) (stays : KeepsCustody a b n) (was : LeavesPair (crash_now a) n a.held) where
  pub pair_left : (t : ℕ) → a.moment < t → t ≤ b.moment → LeavesPair (crash_at b t) n a.held
  pair_left t after le = record {
    mapping = λ content left. was.mapping content (mapping.left was.firm_mapping t content after le left);
    prefix = λ content left. was.prefix content (prefix.left was.firm_prefix t content after le left);
    firm_mapping = subst (λ (c : Custody). ¬ custody.IsLoose c (Mapping n)) (sym (stays t after le)) was.firm_mapping;
    firm_prefix = subst (λ (c : Custody). ¬ custody.IsLoose c (Prefix n)) (sym (stays t after le)) was.firm_prefix;
  }

  pub pair_now : KeepsPast a b → LeavesPair (crash_now b) n a.held
  pair_now goes = record {
    mapping = left_now a b (Mapping n) (λ content. content ≡ a.held (Mapping n)) goes was.mapping (each_synced a b (Mapping n) (λ content. content ≡ a.held (Mapping n)) was.firm_mapping mapping was.mapping);
    prefix = left_now a b (Prefix n) (λ content. content ≡ a.held (Prefix n)) goes was.prefix (each_synced a b (Prefix n) (λ content. content ≡ a.held (Prefix n)) was.firm_prefix prefix was.prefix);
    firm_mapping = subst (λ (c : Custody). ¬ custody.IsLoose c (Mapping n)) (sym (lending_now a b goes n stays)) was.firm_mapping;
    firm_prefix = subst (λ (c : Custody). ¬ custody.IsLoose c (Prefix n)) (sym (lending_now a b goes n stays)) was.firm_prefix;
  }

module _ (a b : Told) (files : (file : FileName) → SyncsAtMost a b file) (stays : (attempt : ℕ) → KeepsCustody a b attempt) (r : Repository) (s : Slot) (stands : StandsFor a.held r) (has : HasLive s a.held) (pending : NothingPending a) where
  pub recovers_at : (t : ℕ) → a.moment < t → t ≤ b.moment → ((content : Content) → b.may_leave t Control content → content ≡ a.held Control) → RecoversTo (crash_at b t) r
  recovers_at t after le control = recovers (crash_at b t) a.held r s stands has control
      (λ at low high content left. pending.chunks s has at low high content ((files (Chunk (chunk_of s.chunk at))).left (λ x. x) t content after le left))
      (λ live. pair_left a b s.live (files (Mapping s.live)) (files (Prefix s.live)) (stays s.live) (pending.pair s has live) t after le)
      (λ attempt some. pending.drawn s has attempt (λ none. some (stays attempt t after le ∙ none)))

-- an image that stands has a live slot
standing_has : (image : Image) (r : Repository) (stands : StandsFor image r) → HasLive stands.standing.slot image
standing_has image r stands = record { control = stands.standing.control; index = stands.standing.index; held = stands.standing.held; live = stands.standing.live }

-- from a moment on a crash leaves the control file that is read, and no file changes, but that it is synced
pub recovers_from : (a b : Told) (from : ℕ) → a.moment < from → SyncsOnly (Only Control) a b → ((t : ℕ) → from ≤ t → t ≤ b.moment → (content : Content) → b.may_leave t Control content → content ≡ b.held Control)
    → (r : Repository) → StandsFor a.held r → NothingPending a → (t : ℕ) → from ≤ t → t ≤ b.moment → RecoversTo (crash_at b t) r
recovers_from a b from begins only left r stands pending t late le =
    recovers_at a b only.files only.changes.lending r stands.standing.slot stands (standing_has a.held r stands) pending t (omega (arith, begins, late)) le
    (λ content here. left t late le content here ∙ (only.files Control).held (λ x. x))

-- ---- what a store holds

module _ (store : Held) (r : Repository) (a : Told) (holds : HoldsStore store a r) where
  pub held_has : HasLive store.slot a.held
  held_has = record {
    control = holds.stands.standing.control;
    index = store.index;
    held = holds.stands.standing.held;
    live = subst (λ c. IsLive (bytes_of c) store.index store.slot) holds.stands.standing.held holds.live;
  }

  module _ (pending : NothingPending a) where
    pub recovers_now : RecoversTo (crash_now a) r
    recovers_now = recovers (crash_now a) a.held r store.slot holds.stands held_has holds.kept (pending.chunks store.slot held_has) (pending.pair store.slot held_has) (pending.drawn store.slot held_has)

    pub recovers_since : (b : Told) → ((file : FileName) → KeepsFile a b file) → ((attempt : ℕ) → KeepsCustody a b attempt) → (t : ℕ) → a.moment < t → t ≤ b.moment → RecoversTo (crash_at b t) r
    recovers_since b files stays t after le = recovers_at a b (λ file. at_most a b file (files file)) stays r store.slot holds.stands held_has pending t after le
        (λ content here. holds.kept content ((files Control).left (λ x. x) t content after le here))

-- ---- the live pair

-- another image has the pair of a slot that an image has
abbrev pub SamePair : Slot → Image → Image → Type 0
SamePair s image other = s.live ≢ 0 → (other (Mapping s.live) ≡ image (Mapping s.live)) × (other (Prefix s.live) ≡ image (Prefix s.live))

abbrev pub LeavesPairOf : Crash → Slot → Image → Type 0
LeavesPairOf crash s image = s.live ≢ 0 → LeavesPair crash s.live image

-- each image that a crash leaves has it
pub same_pair : (crash : Crash) (s : Slot) (image other : Image) → LeavesPairOf crash s image → Possible crash.leave other → SamePair s image other
same_pair crash s image other pair possible live = ((pair live).mapping (other (Mapping s.live)) (possible (Mapping s.live)), (pair live).prefix (other (Prefix s.live)) (possible (Prefix s.live)))

pub pair_alike : (crash : Crash) (s : Slot) (image other : Image) → SamePair s image other → LeavesPairOf crash s image → LeavesPairOf crash s other
pair_alike crash s image other same pair live = record {
  mapping = λ content left. (pair live).mapping content left ∙ sym (same live).0;
  prefix = λ content left. (pair live).prefix content left ∙ sym (same live).1;
  firm_mapping = (pair live).firm_mapping;
  firm_prefix = (pair live).firm_prefix;
}

pair_of : (s : Slot) (image other : Image) → SameSpace s image other → SamePair s image other
pair_of s image other same live = (same.mapping live, same.prefix live)

-- where a crash leaves the bytes and the pair, nothing is pending
pub pending_of : (s : Slot) (a : Told) → HasLive s a.held → LeavesChunks (a.may_leave a.moment) s a.held → LeavesPairOf (crash_now a) s a.held → ((attempt : ℕ) → lending a attempt ≢ own → attempt < s.next_attempt) → NothingPending a
pending_of s a has chunks pair drawn = flushed_image (crash_now a) a.held a.held s has itself chunks pair drawn
  where
    itself : SameSpace s a.held a.held
    itself = record { chunks = λ at low high. refl; mapping = λ live. refl; prefix = λ live. refl }

-- ---- the bytes of the records, as a list

module _ (s : Slot) (above : s.horizon ≤ s.end) (image : Image) (filled : NoGap s.chunk image s.horizon s.end) where
  ends : s.horizon + (s.end - s.horizon) ≡ s.end
  ends = omega (arith, above)

  abbrev front : List ℕ
  front = front_in s s.end image

  pub front_stands : Holds s.chunk s.horizon front image
  front_stands = front_holds s.chunk s.horizon (s.end - s.horizon) s.end ends image filled

  pub front_end : s.horizon + length front ≡ s.end
  front_end = front_ends s.chunk s.horizon (s.end - s.horizon) s.end ends image filled

  pub front_left : (leave : Leave) → LeavesChunks leave s image → (k : ℕ) → k < length front → (content : Content) → leave (Chunk (chunk_of s.chunk (s.horizon + k))) content
      → byte_of content (place_in_chunk s.chunk (s.horizon + k)) ≡ slice_get front k
  front_left leave left k lt content here = left (s.horizon + k) (omega arith) (omega (arith, lt, front_end)) content here ∙ front_stands k lt

  -- an image that has them has the same space, and one that has more behind them adds these
  pub same_space : (other : Image) → SamePair s image other → Holds s.chunk s.horizon front other → SameSpace s image other
  same_space other pair holds = record {
    chunks = subst (λ (n : ℕ). SameChunks s.chunk s.horizon n image other) ends (same_places s.chunk s.horizon (s.end - s.horizon) image other (subst (NoGap s.chunk image s.horizon) (sym ends) filled) holds);
    mapping = λ live. (pair live).0;
    prefix = λ live. (pair live).1;
  }

  pub adds_bytes : (bytes : List ℕ) (other : Image) → SamePair s image other → Holds s.chunk s.horizon (front ++ bytes) other → AddsBytes s bytes image other
  adds_bytes bytes other pair holds = record {
    same = same_space other pair (holds_front s.chunk s.horizon front bytes other holds);
    added = subst (λ (n : ℕ). Holds s.chunk n bytes other) front_end (stands_behind (chunk_byte s.chunk other) s.horizon front bytes holds);
  }

-- the bytes up to the new end, place by place
added_places : (s : Slot) (bytes : List ℕ) (image one other : Image) → AddsBytes s bytes image one → AddsBytes s bytes image other → SameChunks s.chunk s.horizon (s.end + length bytes) one other
added_places s bytes image one other first second at low high = elim (cases_lt at s.end) [
  | inl below ↦ second.same.chunks at low below ∙ sym (first.same.chunks at low below)
  | inr from ↦
      let inside : at - s.end < length bytes = omega (arith, from, high) in
      let place : s.end + (at - s.end) ≡ at = omega (arith, from) in
      subst (λ (n : ℕ). chunk_byte s.chunk other n ≡ chunk_byte s.chunk one n) place (second.added (at - s.end) inside ∙ sym (first.added (at - s.end) inside))
]

-- ---- a step

-- the same image, with another content of one file
with_file : FileName → Image → Content → Image
with_file one image content file = if is_same_file one file then content else image file

with_file_left : (one : FileName) (leave : Leave) (image : Image) (content : Content) → Possible leave image → leave one content → Possible leave (with_file one image content)
unfolding with_file
with_file_left one leave image content possible left file = by (is_same_file one file) refl
  where
    by : (b : Bool) → is_same_file one file ≡ b → leave file (if b then content else image file)
    by true is = subst (λ f. leave f content) (same_file one file is) left
    by false is = possible file

there : (one : FileName) (image : Image) (content : Content) → with_file one image content one ≡ content
unfolding with_file
there one image content = ap (λ b. if b then content else image one) (file_itself one)

-- that file is none of the control file
control_there : (n : ℕ) (image : Image) (content : Content) → with_file (Chunk n) image content Control ≡ image Control
unfolding with_file
control_there n image content = refl

-- an image with the old slot live and the same bytes
abbrev pub IsOld : ℕ → Slot → Image → Image → Type 0
IsOld i s image other = (live_of (other Control) ≡ live_slot i (slot_bytes s)) × SameSpace s image other

-- or with the next slot, and these behind them
abbrev pub IsNew : ℕ → Slot → Slot → List ℕ → Image → Image → Type 0
IsNew j s next bytes image other = (live_of (other Control) ≡ live_slot j (slot_bytes next)) × AddsBytes s bytes image other

-- Each image is one of the two.
module _ (crash : Crash) (i j : ℕ) (s : Slot) (u : Unswept) (attempt commits : ℕ) (bytes : List ℕ) (image : Image) (s_is : IsSlot s) (next_is : IsSlot (slot_behind s u attempt (length bytes) commits)) (apart : i ≢ j) (more : s.next_attempt ≤ attempt)
    (pair : LeavesPairOf crash s image) (drawn : (n : ℕ) → crash.lending n ≢ own → n < s.next_attempt) where
  abbrev next : Slot
  next = slot_behind s u attempt (length bytes) commits

  abbrev Old : Image → Type 0
  Old = IsOld i s image

  abbrev New : Image → Type 0
  New = IsNew j s next bytes image

  two : (l : Live) {X : Type 0} → l ≡ live_slot i (slot_bytes s) → l ≡ live_slot j (slot_bytes next) → X
  two l one other = let same : live_slot i (slot_bytes s) ≡ live_slot j (slot_bytes next) = sym one ∙ other in absurd (apart (cc (same)))

  module _ (each : (other : Image) → Possible crash.leave other → Old other ⊎ New other) where
    module _ (other : Image) (possible : Possible crash.leave other) (at : ℕ) (content : Content) (left : crash.leave (Chunk (chunk_of s.chunk at)) content) where
      abbrev changed : Image
      changed = with_file (Chunk (chunk_of s.chunk at)) other content

      changed_is : Old changed ⊎ New changed
      changed_is = each changed (with_file_left (Chunk (chunk_of s.chunk at)) crash.leave other content possible left)

      byte_there : chunk_byte s.chunk changed at ≡ byte_of content (place_in_chunk s.chunk at)
      unfolding chunk_byte
      byte_there = ap (λ (c : Content). byte_of c (place_in_chunk s.chunk at)) (there (Chunk (chunk_of s.chunk at)) other content)

      same_control : live_of (changed Control) ≡ live_of (other Control)
      same_control = ap live_of (control_there (chunk_of s.chunk at) other content)

      old_byte : s.horizon ≤ at → at < s.end → byte_of content (place_in_chunk s.chunk at) ≡ chunk_byte s.chunk image at
      old_byte low high = sym byte_there ∙ elim changed_is [ inl old ↦ old.1.chunks at low high | inr new ↦ new.1.same.chunks at low high ]

      new_byte : New other → s.horizon ≤ at → at < s.end + length bytes → byte_of content (place_in_chunk s.chunk at) ≡ chunk_byte s.chunk other at
      new_byte is low high = sym byte_there ∙ elim changed_is [
        | inl old ↦ two (live_of (changed Control)) old.0 (same_control ∙ is.0)
        | inr new ↦ added_places s bytes image other changed is.1 new.1 at low high
      ]

    pub flushed_step : AllFlushed crash
    flushed_step other possible = elim (each other possible) [
      | inl old ↦ flushed_image crash image other s (in_image i s other s_is old.0) old.1 (λ at low high content left. old_byte other possible at content left low high) pair drawn
      | inr new ↦
          flushed_image crash other other next (in_image j next other next_is new.0) (record { chunks = λ at low high. refl; mapping = λ live. refl; prefix = λ live. refl })
          (λ at low high content left. new_byte other possible at content left new low high) (pair_alike crash s image other (pair_of s image other new.1.same) pair)
          (λ n some. (let was = drawn n some in omega (arith, was, more)))
    ]
