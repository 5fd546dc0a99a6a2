-- A change of files that are apart from the store, and of the custody of one attempt that is not live.
--     beside_for, beside_only, beside_on      what changes beside the attempt, of a call and of two behind one another
--     for_only, for_lend      the change of a call.      for_more      of fewer files.      for_behind, for_before      of two behind one another, one of which leaves custody as it is
--     holds_apart      the store holds what it held, where no collection runs.      recovers_apart, pending_apart, flushed_apart      what a crash leaves of it recovers, and nothing comes to be pending
--     space_apart      a child that was told of its slot reads no other bytes.      list_apart, leaves_apart      and the image has the same records, as has each that a crash leaves.      live_apart      the same slot is live
use Rattle.std.proofs.Common.{◌≡◌, ◌≢◌, inl, inr, ℕ, ◌<◌, ◌≤◌, sym, ◌∙◌, ap, subst, arith}
use Rattle.std.specs.Prelude.{Result, Option, None, IfSome}
use Rattle.std.proofs.lemmas.Bool.{cases_lt, cases_eq}
use Rattle.ip_ground.specs.declared.names.FileName.{FileName}
use Rattle.ip_ground.specs.declared.names.FileName.TheVariants.{Control, Chunk, Mapping, Prefix}
use Rattle.ip_ground.specs.declared.names.GroundFault.{GroundFault}
use Rattle.ip_ground.specs.Calls.{Lends}
use Rattle.ip_ground.specs.Contents.{Content}
use Rattle.ip_ground.specs.Custody.{own, IsOfAttempt}
use Rattle.ip_ground.specs.Told.{Told, lending, KeepsFile, KeepsCustody, TurnsCustody, IsSynced, NoFile, ChangesOnly}
use Rattle.ip_ground.proofs.Spans.{at_most, left_now, each_stays, lending_now, goes_on, stays_on, said_on, custody_on}
use Rattle.ip_spec.specs.Repository.{Repository}
use Rattle.ip_image.specs.declared.slot.Slot.{Slot}
use Rattle.ip_image.specs.Virtual.{chunk_of, place_in_chunk, byte_of, chunk_byte}
use Rattle.ip_image.specs.Standing.{Standing}
use Rattle.ip_image.specs.Pending.{HasLive, crash_at, crash_now, SameSpace, NothingPending, AllFlushed, KeepsSpace}
use Rattle.ip_image.specs.Headline.{RecoversTo}
use Rattle.ip_image.proofs.HeadlineLaws.{recovers, one_slot}
use Rattle.ip_chunks.proofs.Borders.{some_size, chunk_up}
use Rattle.ip_held.specs.declared.held.Held.{Held}
use Rattle.ip_held.specs.declared.collection.Collection.{Collection}
use Rattle.ip_held.specs.Collecting.{Collects}
use Rattle.ip_held.specs.StandsBy.{LeavesStill, StandsBy}
use Rattle.ip_held.specs.Held.{Holds, OwnsPair}
use Rattle.ip_held.specs.Sweeping.{IsApart, ChangesBeside, ChangesFor, KeepsFiles}
use Rattle.ip_held.proofs.KeptFiles.{files_unwritten}
use Rattle.ip_held.proofs.LeftImages.{by_same}
use Rattle.ip_held.proofs.Listed.{same_list, holds_on}
use Rattle.ip_held.proofs.Recovering.{LeavesPairOf, held_has, pair_left, pair_now, pair_alike, pending_of, recovers_now}

-- ---- changes

pub beside_for : (n : ℕ) (these : FileName → Type 0) (a b : Told) → ChangesFor n these a b → ChangesBeside n these a b
beside_for n these a b changes = record { goes = changes.goes; others = changes.others; unwritten = changes.unwritten; lending = changes.lending; said = changes.said }

pub beside_only : (n : ℕ) (these : FileName → Type 0) (a b : Told) → ChangesOnly these a b → KeepsFiles a b → ChangesBeside n these a b
beside_only n these a b only files = record { goes = only.goes; others = λ file other not. only.others file other; unwritten = files_unwritten n a b files; lending = λ other not. only.lending other; said = only.said }

pub beside_on : (n : ℕ) (these : FileName → Type 0) (a b c : Told) → ChangesBeside n these a b → ChangesBeside n these b c → ChangesBeside n these a c
beside_on n these a b c first next = record {
  goes = goes_on a b c first.goes next.goes;
  others = λ file other not. stays_on a b c file first.goes next.goes (first.others file other not) (next.others file other not);
  unwritten = λ file of. next.unwritten file of ∙ first.unwritten file of;
  lending = λ other not. custody_on a b c other first.goes next.goes (first.lending other not) (next.lending other not);
  said = said_on a b c first.goes next.goes first.said next.said;
}

pub for_only : (n : ℕ) (these : FileName → Type 0) (a b : Told) → ChangesOnly these a b → KeepsFiles a b → ChangesFor n these a b
for_only n these a b only files = record {
  goes = only.goes;
  others = λ file other not. only.others file other;
  unwritten = files_unwritten n a b files;
  turns = λ t after le. inl (only.lending n t after le);
  lending = λ other not. only.lending other;
  said = only.said;
}

pub for_lend : (n : ℕ) (res : Result (Unit {0}) GroundFault) (a b : Told) → Lends n res a b → ChangesFor n NoFile a b
for_lend n res a b lends = record {
  goes = lends.goes;
  others = λ file none other. lends.files file other;
  unwritten = λ file of. lends.unwritten file;
  turns = lends.turns;
  lending = lends.others;
  said = lends.said;
}

pub for_more : (n : ℕ) (these those : FileName → Type 0) (a b : Told) → ((file : FileName) → these file → those file) → ChangesFor n these a b → ChangesFor n those a b
for_more n these those a b more changes = record {
  goes = changes.goes;
  others = λ file other not. changes.others file (λ this. other (more file this)) not;
  unwritten = changes.unwritten;
  turns = changes.turns;
  lending = changes.lending;
  said = changes.said;
}

module _ (n : ℕ) (these : FileName → Type 0) (a b c : Told) where
  pub for_behind : ChangesOnly these a b → KeepsFiles a b → ChangesFor n these b c → ChangesFor n these a c
  for_behind only files changes = record {
    goes = goes_on a b c only.goes changes.goes;
    others = λ file other not. stays_on a b c file only.goes changes.goes (only.others file other) (changes.others file other not);
    unwritten = λ file of. changes.unwritten file of ∙ files_unwritten n a b files file of;
    turns = turns;
    lending = λ other not. custody_on a b c other only.goes changes.goes (only.lending other) (changes.lending other not);
    said = said_on a b c only.goes changes.goes only.said changes.said;
  }
    where
      turns : TurnsCustody a c n
      turns t after le = elim (cases_lt b.moment t) [
        | inl late ↦ elim (changes.turns t late le) [ inl was ↦ inl (was ∙ lending_now a b only.goes n (only.lending n)) | inr is ↦ inr is ]
        | inr early ↦ inl (changes.goes.lending t n early ∙ only.lending n t after early)
      ]

  pub for_before : ChangesFor n these a b → ChangesOnly these b c → KeepsFiles b c → ChangesFor n these a c
  for_before changes only files = record {
    goes = goes_on a b c changes.goes only.goes;
    others = λ file other not. stays_on a b c file changes.goes only.goes (changes.others file other not) (only.others file other);
    unwritten = λ file of. files_unwritten n b c files file of ∙ changes.unwritten file of;
    turns = turns;
    lending = λ other not. custody_on a b c other changes.goes only.goes (changes.lending other not) (only.lending other);
    said = said_on a b c changes.goes only.goes changes.said only.said;
  }
    where
      now : lending c n ≡ lending b n
      now = lending_now b c only.goes n (only.lending n)

      turns : TurnsCustody a c n
      turns t after le = elim (cases_lt b.moment t) [
        | inl late ↦ inr (only.lending n t late le ∙ sym now)
        | inr early ↦ elim (changes.turns t after early) [
          | inl was ↦ inl (only.goes.lending t n early ∙ was)
          | inr is ↦ inr (only.goes.lending t n early ∙ is ∙ sym now)
        ]
      ]

-- ---- the store

module _ (store : Held) (r : Repository) (a : Told) (holds : Holds store a r) (none : store.collection ≡ None) (n : ℕ) (other : n ≢ store.slot.live) (below : n < store.slot.next_attempt)
    (these : FileName → Type 0) (apart : (file : FileName) → these file → IsApart store.slot file) (b : Told) (changes : ChangesBeside n these a b) where
  has : HasLive store.slot a.held
  has = held_has store r a holds

  keeps : (file : FileName) → ¬ IsApart store.slot file → ¬ IsOfAttempt n file → KeepsFile a b file
  keeps file here not = changes.others file (λ this. here (apart file this)) not

  control : KeepsFile a b Control
  control = keeps Control (λ no. no) (λ no. no)

  chunk : (at : ℕ) → store.slot.horizon ≤ at → KeepsFile a b (Chunk (chunk_of store.slot.chunk at))
  chunk at low = keeps (Chunk (chunk_of store.slot.chunk at)) not_below (λ no. no)
    where
      not_below : ¬ IsApart store.slot (Chunk (chunk_of store.slot.chunk at))
      not_below less = let rises = chunk_up store.slot.chunk (some_size store.slot.chunk holds.tables.slot.chunk) store.slot.horizon at low in absurd (omega (arith, less, rises))

  mapping : KeepsFile a b (Mapping store.slot.live)
  mapping = keeps (Mapping store.slot.live) (λ not. not (λ i. store.slot.live)) (λ same. other (sym same))

  prefix : KeepsFile a b (Prefix store.slot.live)
  prefix = keeps (Prefix store.slot.live) (λ not. not (λ i. store.slot.live)) (λ same. other (sym same))

  custody : KeepsCustody a b store.slot.live
  custody = changes.lending store.slot.live (λ same. other (sym same))

  pair_on : OwnsPair b store.slot
  pair_on live = record { mapping = mapping.own (holds.pair live).mapping; prefix = prefix.own (holds.pair live).prefix }

  same : SameSpace store.slot a.held b.held
  unfolding chunk_byte
  same = record {
    chunks = λ at low high. ap (λ (c : Content). byte_of c (place_in_chunk store.slot.chunk at)) ((chunk at low).held (λ no. no));
    mapping = λ live. mapping.held (holds.pair live).mapping;
    prefix = λ live. prefix.held (holds.pair live).prefix;
  }

  same_control : b.held Control ≡ a.held Control
  same_control = control.held (λ no. no)

  kept : IsSynced b Control
  kept content left = left_now a b Control (λ (c : Content). c ≡ a.held Control) changes.goes holds.kept (each_stays a b Control (λ (c : Content). c ≡ a.held Control) (λ no. no) control holds.kept) content left ∙ sym same_control

  pub holds_apart : Holds store b r
  holds_apart = holds_on store a r holds b same_control same kept pair_on (subst (λ (o : Option Collection). IfSome o (Collects b store.slot holds.stands.standing.records r)) (sym none) tt)

  -- the same slot is live
  pub live_apart : (s : Slot) → HasLive s a.held → HasLive s b.held
  live_apart s live = record { control = live.control; index = live.index; held = same_control ∙ live.held; live = live.live }

  -- whichever proof says that it stands
  pub list_apart : (B : Standing b.held) → B.records ≡ holds.stands.standing.records
  list_apart B = same_list store a r holds b same_control same B

  module _ (pending : NothingPending a) where
    drawn_at : (t : ℕ) → a.moment < t → t ≤ b.moment → (attempt : ℕ) → b.lending_at t attempt ≢ own → attempt < store.slot.next_attempt
    drawn_at t after le attempt some = elim (cases_eq attempt n) [
      | inl is ↦ let low = below in omega (arith, is, low)
      | inr not ↦ pending.drawn store.slot has attempt (λ none. some (changes.lending attempt not t after le ∙ none))
    ]

    drawn_now : (attempt : ℕ) → lending b attempt ≢ own → attempt < store.slot.next_attempt
    drawn_now attempt some = elim (cases_eq attempt n) [
      | inl is ↦ let low = below in omega (arith, is, low)
      | inr not ↦ pending.drawn store.slot has attempt (λ none. some (lending_now a b changes.goes attempt (changes.lending attempt not) ∙ none))
    ]

    pair_at : (t : ℕ) → a.moment < t → t ≤ b.moment → LeavesPairOf (crash_at b t) store.slot a.held
    pair_at t after le live = pair_left a b store.slot.live (at_most a b (Mapping store.slot.live) mapping) (at_most a b (Prefix store.slot.live) prefix) custody (pending.pair store.slot has live) t after le

    pair_since : LeavesPairOf (crash_now b) store.slot a.held
    pair_since live = pair_now a b store.slot.live (at_most a b (Mapping store.slot.live) mapping) (at_most a b (Prefix store.slot.live) prefix) custody (pending.pair store.slot has live) changes.goes

    abbrev IsByte : ℕ → Content → Type 0
    IsByte at content = byte_of content (place_in_chunk store.slot.chunk at) ≡ chunk_byte store.slot.chunk a.held at

    bytes_at : (t : ℕ) → a.moment < t → t ≤ b.moment → (at : ℕ) → store.slot.horizon ≤ at → at < store.slot.end → (content : Content) → b.may_leave t (Chunk (chunk_of store.slot.chunk at)) content → IsByte at content
    bytes_at t after le at low high content left = pending.chunks store.slot has at low high content ((chunk at low).left (λ no. no) t content after le left)

    bytes_now : (at : ℕ) → store.slot.horizon ≤ at → at < store.slot.end → (content : Content) → b.may_leave b.moment (Chunk (chunk_of store.slot.chunk at)) content → byte_of content (place_in_chunk store.slot.chunk at) ≡ chunk_byte store.slot.chunk b.held at
    bytes_now at low high content left =
        let was = pending.chunks store.slot has at low high in
        left_now a b (Chunk (chunk_of store.slot.chunk at)) (IsByte at) changes.goes was (each_stays a b (Chunk (chunk_of store.slot.chunk at)) (IsByte at) (λ no. no) (chunk at low) was) content left ∙ sym (same.chunks at low high)

    pub recovers_apart : (t : ℕ) → a.moment < t → t ≤ b.moment → RecoversTo (crash_at b t) r
    recovers_apart t after le =
        recovers (crash_at b t) a.held r store.slot holds.stands has (λ content left. holds.kept content (control.left (λ no. no) t content after le left)) (bytes_at t after le) (pair_at t after le) (drawn_at t after le)

    pub pending_apart : NothingPending b
    pending_apart =
        pending_of store.slot b (held_has store r b holds_apart) bytes_now (pair_alike (crash_now b) store.slot a.held b.held (λ live. (mapping.held (holds.pair live).mapping, prefix.held (holds.pair live).prefix)) pair_since) drawn_now

    pub flushed_apart : AllFlushed (crash_now b)
    flushed_apart = (recovers_now store r b holds_apart pending_apart).flushed

    pub space_apart : (u : Slot) → HasLive u a.held → KeepsSpace u a b
    unfolding chunk_byte
    space_apart u live t after le image possible = subst (λ (v : Slot). SameSpace v a.held image) (one_slot store.slot u a.held has live) (record {
      chunks = λ at low high. bytes_at t after le at low high (image (Chunk (chunk_of store.slot.chunk at))) (possible (Chunk (chunk_of store.slot.chunk at)));
      mapping = λ some. (pair_at t after le some).mapping (image (Mapping store.slot.live)) (possible (Mapping store.slot.live));
      prefix = λ some. (pair_at t after le some).prefix (image (Prefix store.slot.live)) (possible (Prefix store.slot.live));
    })

    -- each image that it leaves has the same records
    pub leaves_apart : LeavesStill holds.stands.standing.records a b
    leaves_apart u live t after le image possible = subst (λ (v : Slot). StandsBy holds.stands.standing.records v.horizon image) (one_slot store.slot u a.held has live)
        (by_same a.held image store.slot r holds.stands has
        (record { control = has.control; index = has.index; held = holds.kept (image Control) (control.left (λ no. no) t (image Control) after le (possible Control)) ∙ has.held; live = has.live })
        (space_apart store.slot has t after le image possible))
