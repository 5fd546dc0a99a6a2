-- The calls on the chunk of one place, which ask for bytes of that chunk alone.
use Rattle.std.proofs.Common.{◌≡◌, ℕ, ◌+◌, ◌-◌, ◌<◌, ◌≤◌, min, List, length, take, drop, get_or, Some, None, inl, inr, refl, sym, ◌∙◌, ap, subst, arith}
use Rattle.std.specs.Prelude.{IsSome, OnOk, OnErr, Result, Ok, Err}
use Rattle.std.proofs.lemmas.Bool.{cases_lt, cases_eq}
use Rattle.std.proofs.lemmas.Result.{on_ok_weaker}
use Rattle.std.proofs.lemmas.List.{length-take, get_or-take, get_or-drop}
use Rattle.std.proofs.lemmas.Option.{slice_get-get_or}
use Rattle.ip_ground.specs.declared.names.FileName.TheVariants.{Chunk}
use Rattle.ip_ground.specs.declared.names.GroundFault.{GroundFault}
use Rattle.ip_ground.specs.Contents.{Content, Image, bytes_of, size_of, written, Torn}
use Rattle.ip_ground.specs.Writing.{torn_written}
use Rattle.ip_ground.specs.Told.{Told, ChangesLeft, Only, ChangesOnly}
use Rattle.ip_ground.specs.Calls.{Reads, Writes}
use Rattle.ip_ground.proofs.Spans.{only_more}
use Rattle.ip_image.specs.Virtual.{Stands, byte_of, chunk_of, place_in_chunk}
use Rattle.ip_chunks.specs.Places.{chunk_start, chunk_byte, IsBetween, NoGap, IsChunkBetween}
use Rattle.ip_chunks.specs.Effects.{TornByte, TornChunk, Appends, ReadsAt}
use Rattle.ip_chunks.proofs.Borders.{below, chunk_on, place_on, chunk_from_start, together}
use Rattle.ip_chunks.proofs.Gaps.{some_byte, no_byte, within_from, byte_there, torn_byte, torn_nothing, torn_at, written_byte}

-- where no place of its chunk before it is a gap, the file reaches so far
pub reaches : (size at : ℕ) → 0 < size → (image : Image) → NoGap size image (chunk_start size at) at → place_in_chunk size at ≤ size_of (image (Chunk (chunk_of size at)))
unfolding chunk_byte
reaches size at some image no_gap = elim (cases_lt 0 (place_in_chunk size at)) [
  | inl behind ↦ by behind
  | inr first ↦ omega (arith, first)
]
  where
    by : 0 < place_in_chunk size at → place_in_chunk size at ≤ size_of (image (Chunk (chunk_of size at)))
    by behind =
        let before : chunk_start size at ≤ at - 1 = omega (arith, behind) in
        let same : chunk_of size (at - 1) ≡ chunk_of size at = chunk_from_start size some at (at - 1) before (omega arith) in
        let there = subst (λ (n : ℕ). IsSome (byte_of (image (Chunk n)) (place_in_chunk size (at - 1)))) same (no_gap (at - 1) (before, omega (arith, behind, start_low))) in
        let within = within_from (image (Chunk (chunk_of size at))) (place_in_chunk size (at - 1)) there in
        omega (arith, within, together size some (at - 1) at same, start_low, behind)
      where
        start_low : place_in_chunk size at ≤ at
        start_low = omega arith

-- bytes at a place change no file but its chunk
pub only_piece : (size end : ℕ) (bytes : List ℕ) → 0 < length bytes → (a b : Told) → ChangesOnly (Only (Chunk (chunk_of size end))) a b → ChangesOnly (IsChunkBetween size end (end + length bytes)) a b
only_piece size end bytes some a b only = only_more a b (Only (Chunk (chunk_of size end))) (IsChunkBetween size end (end + length bytes)) (λ f is. (end, (omega arith, omega (arith, some)), is)) only

module _ (size end : ℕ) (some_size : 0 < size) (bytes : List ℕ) (some : 0 < length bytes) (inside : length bytes ≤ size - place_in_chunk size end) (a b : Told) where
  abbrev number : ℕ
  number = chunk_of size end

  abbrev place : ℕ
  place = place_in_chunk size end

  module _ (within : place ≤ size_of (a.held (Chunk number))) (r : Result (Unit {0}) GroundFault) (writes : Writes (Chunk number) place bytes r a b) where
    -- each byte is one of before after the write, cut short or not
    torn_so : (s : Result (Unit {0}) GroundFault) → s ≡ r → Torn place (length bytes) (a.held (Chunk number)) (b.held (Chunk number))
    torn_so (Ok u) is =
        subst (Torn place (length bytes) (a.held (Chunk number))) (sym (subst (λ q. OnOk q (b.held (Chunk number) ≡ written (a.held (Chunk number)) place bytes)) (sym is) (writes.ok (λ x. x))))
        (torn_written (a.held (Chunk number)) place bytes within)
    torn_so (Err e) is = subst (λ q. OnErr q (Torn place (length bytes) (a.held (Chunk number)) (b.held (Chunk number)))) (sym is) (writes.err (λ x. x))

    torn : Torn place (length bytes) (a.held (Chunk number)) (b.held (Chunk number))
    torn = torn_so r refl

    -- at a place of the chunk, and at one of another
    torn_here : (at : ℕ) → chunk_of size at ≡ number → (old new : Content) → Torn place (length bytes) old new → TornByte end (length bytes) at (byte_of old (place_in_chunk size at)) (byte_of new (place_in_chunk size at))
    torn_here at same old new step =
        torn_at end (length bytes) at place (place_in_chunk size at) (byte_of old (place_in_chunk size at)) (byte_of new (place_in_chunk size at)) (together size some_size at end same)
        (torn_byte place (length bytes) (place_in_chunk size at) old new step)

    not_it : (other : ℕ) → (other ≡ number → ⊥) → ¬ Only (Chunk number) (Chunk other)
    not_it other apart is = apart (cc (is))

    elsewhere : (at : ℕ) → (chunk_of size at ≡ number → ⊥) → chunk_byte size b.held at ≡ chunk_byte size a.held at
    unfolding chunk_byte
    elsewhere at apart = ap (λ content. byte_of content (place_in_chunk size at)) ((writes.only.others (Chunk (chunk_of size at)) (not_it (chunk_of size at) apart)).held (λ x. x))

    byte_torn : (at : ℕ) → chunk_of size at ≡ number → TornByte end (length bytes) at (chunk_byte size a.held at) (chunk_byte size b.held at)
    unfolding chunk_byte
    byte_torn at same = torn_here at same (a.held (Chunk (chunk_of size at))) (b.held (Chunk (chunk_of size at))) (subst (λ (n : ℕ). Torn place (length bytes) (a.held (Chunk n)) (b.held (Chunk n))) (sym same) torn)

    there : (at : ℕ) → chunk_of size at ≡ number → at < end → IsSome (chunk_byte size a.held at)
    unfolding chunk_byte
    there at same lt =
        let near : place_in_chunk size at < place = omega (arith, together size some_size at end same, lt) in
        byte_there (a.held (Chunk (chunk_of size at))) (place_in_chunk size at) (subst (λ (n : ℕ). place_in_chunk size at < size_of (a.held (Chunk n))) (sym same) (omega (arith, near, within)))

    stays_here : (at : ℕ) → ¬ IsBetween end (end + length bytes) at → chunk_of size at ≡ number → chunk_byte size b.held at ≡ chunk_byte size a.held at
    stays_here at outside same = elim (cases_lt at end) [
      | inl before ↦ (byte_torn at same).before before (there at same before)
      | inr from ↦ elim (cases_lt at (end + length bytes)) [ inl inside ↦ absurd (outside (from, inside)) | inr behind ↦ (byte_torn at same).behind behind ]
    ]

    stays : (at : ℕ) → ¬ IsBetween end (end + length bytes) at → chunk_byte size b.held at ≡ chunk_byte size a.held at
    stays at outside = elim (cases_eq (chunk_of size at) number) [ inl same ↦ stays_here at outside same | inr apart ↦ elsewhere at apart ]

    no_new_gap : (at : ℕ) → IsSome (chunk_byte size a.held at) → IsSome (chunk_byte size b.held at)
    no_new_gap at was = elim (cases_eq (chunk_of size at) number) [ inl same ↦ (byte_torn at same).within was | inr apart ↦ subst IsSome (sym (elsewhere at apart)) was ]

    stand_then : b.held (Chunk number) ≡ written (a.held (Chunk number)) place bytes → Stands (chunk_byte size b.held) end bytes
    unfolding chunk_byte
    stand_then is k lt =
        let fits : place + k < size = omega (arith, inside, lt, below size some_size end) in
        ap (λ (n : ℕ). byte_of (b.held (Chunk n)) (place_in_chunk size (end + k))) (chunk_on size some_size end k fits)
        ∙ ap (λ (p : ℕ). byte_of (b.held (Chunk number)) p) (place_on size some_size end k fits)
        ∙ ap (λ content. byte_of content (place + k)) is ∙ written_byte (a.held (Chunk number)) place bytes within k lt

    left_here : ChangesLeft (TornChunk size end (length bytes) number) a b (Chunk number)
    left_here moment content after le may = let was = writes.left (λ x. x) moment content after le may in (was.0, was.1, λ at same. torn_here at same was.0 content was.2)

    left : (other : ℕ) → ChangesLeft (TornChunk size end (length bytes) other) a b (Chunk other)
    left other = elim (cases_eq other number) [
      | inl same ↦ subst (λ (n : ℕ). ChangesLeft (TornChunk size end (length bytes) n) a b (Chunk n)) (sym same) left_here
      | inr apart ↦ λ moment content after le may.
          (content, (writes.only.others (Chunk other) (not_it other apart)).left (λ x. x) moment content after le may, λ at here. torn_nothing end (length bytes) at (byte_of content (place_in_chunk size at)))
    ]

    pub appends : Appends size end bytes r a b
    appends = record {
      only = only_piece size end bytes some a b writes.only;
      ok = on_ok_weaker r stand_then (writes.ok (λ x. x));
      others = stays;
      no_new_gap = no_new_gap;
      left = left;
    }

-- what a read of the file gives
module _ (at n : ℕ) (out filled : List ℕ) (here : Content) (count : n ≡ min (length out) (size_of here - at)) (taken : take n filled ≡ take n (drop at (bytes_of here))) where
  pub bytes_stand : Stands (byte_of here) at (take n filled)
  bytes_stand k lt =
      let inside : k < n = omega (arith, lt, length-take n filled) in
      some_byte here (at + k) (omega (arith, inside, count))
      ∙ ap Some (sym (ap (λ (l : List ℕ). get_or l k 0) taken ∙ get_or-take n (drop at (bytes_of here)) k 0 inside ∙ get_or-drop at (bytes_of here) k 0))
      ∙ sym (slice_get-get_or (take n filled) k 0 lt)

  pub gap_behind : n < length out → byte_of here (at + n) ≡ None
  gap_behind short = no_byte here (at + n) (omega (arith, count, short))

module _ (size at : ℕ) (some : 0 < size) (out filled : List ℕ) (inside : length out ≤ size - place_in_chunk size at) (a b : Told) where
  -- the bytes at places behind the first, as they lie in its chunk
  byte_on : (k : ℕ) → k < length out → chunk_byte size a.held (at + k) ≡ byte_of (a.held (Chunk (chunk_of size at))) (place_in_chunk size at + k)
  unfolding chunk_byte
  byte_on k lt =
      let fits : place_in_chunk size at + k < size = omega (arith, inside, lt, below size some at) in
      ap (λ (n : ℕ). byte_of (a.held (Chunk n)) (place_in_chunk size (at + k))) (chunk_on size some at k fits)
      ∙ ap (λ (p : ℕ). byte_of (a.held (Chunk (chunk_of size at))) p) (place_on size some at k fits)

  pub reads_at : (r : Result ℕ GroundFault) → Reads (Chunk (chunk_of size at)) (place_in_chunk size at) out filled r a b → ReadsAt size at out filled r a b
  reads_at (Err e) reads = record { only = reads.only; bytes = tt; gap = tt }
  reads_at (Ok n) reads = record {
    only = reads.only;
    bytes = λ k lt. byte_on k (omega (arith, lt, length-take n filled, count)) ∙ bytes_stand place n out filled here count taken k lt;
    gap = λ short. byte_on n short ∙ gap_behind place n out filled here count taken short;
  }
    where
      place : ℕ
      place = place_in_chunk size at

      here : Content
      here = a.held (Chunk (chunk_of size at))

      same : b.held (Chunk (chunk_of size at)) ≡ here
      same = (reads.only.others (Chunk (chunk_of size at)) (λ none. none)).held (λ x. x)

      count : n ≡ min (length out) (size_of here - place)
      count = subst (λ content. n ≡ min (length out) (size_of content - place)) same reads.count

      taken : take n filled ≡ take n (drop place (bytes_of here))
      taken = subst (λ content. take n filled ≡ take n (drop place (bytes_of content))) same reads.bytes
