-- Calls on one chunk each, one behind the other, are a call on them all.
--     steps_on      what a crash may leave, over both
--     appends_both, append_next      appends.      only_next      which files they change.      appends_stopped      where one failed.      no_gap_here      each may follow those before it
--     Read, reads_both, read_next      what was read without a gap so far.      reads_short, reads_stopped      where a read ends
use borrow.Rule.Slice.PartMut.{put_mid, post_of}
use Rattle.std.proofs.Common.{◌≡◌, ℕ, ◌+◌, ◌-◌, ◌<◌, ◌≤◌, List, ◌++◌, length, take, drop, None, inl, inr, sym, ◌∙◌, ap, subst, arith, length-append}
use Rattle.std.specs.Prelude.{IsSome, Result, Ok, IsErr}
use Rattle.std.proofs.lemmas.Bool.{cases_lt}
use Rattle.std.proofs.lemmas.List.{length-take, length-take-le, length-drop, take-append-le}
use Rattle.std.proofs.Math.Seq.{take-add, take-append-add}
use Rattle.std.proofs.lemmas.Result.{IfOk-from_err, on_ok_weaker}
use Rattle.ip_ground.specs.declared.names.FileName.{FileName}
use Rattle.ip_ground.specs.declared.names.FileName.TheVariants.{Chunk}
use Rattle.ip_ground.specs.declared.names.GroundFault.{GroundFault}
use Rattle.ip_ground.specs.Contents.{Content}
use Rattle.ip_ground.specs.Told.{Told, KeepsPast, ChangesLeft, NoFile, ChangesOnly}
use Rattle.ip_ground.proofs.Spans.{only_more, only_on, left_now}
use Rattle.ip_image.specs.Virtual.{Stands, chunk_of, place_in_chunk}
use Rattle.ip_chunks.specs.Places.{chunk_start, chunk_byte, byte_in, IsBetween, NoGap, IsChunkBetween}
use Rattle.ip_chunks.specs.Effects.{TornChunk, Appends, ReadsAt}
use Rattle.ip_chunks.proofs.Bytes.{stands_both}
use Rattle.ip_chunks.proofs.Gaps.{torn_nothing, torn_wider, torn_twice}

module _ (a b c : Told) (file : FileName) (step : Content → Content → Type 0) (same : (x : Content) → step x x) (twice : (x y z : Content) → step x y → step y z → step x z) where
  pub steps_on : KeepsPast a b → KeepsPast b c → ChangesLeft step a b file → ChangesLeft step b c file → ChangesLeft step a c file
  steps_on first next steps onward moment content after le left = elim (cases_lt b.moment moment) [
    | inl late ↦
        let mid = onward moment content late le left in
        let was = from_now mid.0 mid.1 in
        (was.0, was.1, twice was.0 mid.0 content was.2 mid.2)
    | inr early ↦ steps moment content after early (next.left moment file content early left)
  ]
    where
      from_now : (y : Content) → b.may_leave b.moment file y → (before : Content) × a.may_leave a.moment file before × step before y
      from_now = left_now a b file (λ y. (before : Content) × a.may_leave a.moment file before × step before y) first (λ y now. (y, now, same y)) steps

-- ---- appends

module _ (size end : ℕ) (front back : List ℕ) (r : Result (Unit {0}) GroundFault) (a b c : Told) (first : Appends size end front (Ok tt) a b) (next : Appends size (end + length front) back r b c) where
  abbrev ends : ℕ
  ends = end + length (front ++ back)

  in_first : (file : FileName) → IsChunkBetween size end (end + length front) file → IsChunkBetween size end ends file
  in_first file is = (is.0, (is.1.0, omega (arith, is.1.1, length-append front back)), is.2)

  in_next : (file : FileName) → IsChunkBetween size (end + length front) (end + length front + length back) file → IsChunkBetween size end ends file
  in_next file is = (is.0, (omega (arith, is.1.0), omega (arith, is.1.1, length-append front back)), is.2)

  front_stands : Stands (chunk_byte size c.held) end front
  front_stands k lt = next.others (end + k) (λ between. absurd (omega (arith, between.0, lt))) ∙ first.ok k lt

  others : (at : ℕ) → ¬ IsBetween end ends at → chunk_byte size c.held at ≡ chunk_byte size a.held at
  others at outside =
      next.others at (λ between. outside (omega (arith, between.0), omega (arith, between.1, length-append front back)))
      ∙ first.others at (λ between. outside (between.0, omega (arith, between.1, length-append front back)))

  left : (number : ℕ) → ChangesLeft (TornChunk size end (length (front ++ back)) number) a c (Chunk number)
  left number =
      steps_on a b c (Chunk number) (TornChunk size end (length (front ++ back)) number) (λ x at here. torn_nothing end (length (front ++ back)) at (byte_in size at x))
      (λ x y z one other at here. torn_twice end (length (front ++ back)) at (byte_in size at x) (byte_in size at y) (byte_in size at z) (one at here) (other at here)) first.only.goes next.only.goes
      (λ moment content after le may.
      let was = first.left number moment content after le may in
      (was.0, was.1, λ at here. torn_wider end (length front) at end (length (front ++ back)) (byte_in size at was.0) (byte_in size at content) (omega arith) (omega (arith, length-append front back)) (was.2 at here)))
      (λ moment content after le may.
      let was = next.left number moment content after le may in
      (was.0, was.1, λ at here. torn_wider (end + length front) (length back) at end (length (front ++ back)) (byte_in size at was.0) (byte_in size at content) (omega arith) (omega (arith, length-append front back)) (was.2 at here)))

  pub appends_both : Appends size end (front ++ back) r a c
  appends_both = record {
    only = only_on a b c (IsChunkBetween size end ends) (only_more a b (IsChunkBetween size end (end + length front)) (IsChunkBetween size end ends) in_first first.only)
        (only_more b c (IsChunkBetween size (end + length front) (end + length front + length back)) (IsChunkBetween size end ends) in_next next.only);
    ok = on_ok_weaker r (λ stands. stands_both (chunk_byte size c.held) end front back front_stands stands) next.ok;
    others = others;
    no_new_gap = λ at there. next.no_new_gap at (first.no_new_gap at there);
    left = left;
  }

-- so many bytes at the most were appended where one failed
pub appends_stopped : (size end : ℕ) (some all : List ℕ) (r s : Result (Unit {0}) GroundFault) (a b : Told) → length some ≤ length all → IsErr s → Appends size end some r a b → Appends size end all s a b
appends_stopped size end some all r s a b few failed appends = record {
  only = only_more a b (IsChunkBetween size end (end + length some)) (IsChunkBetween size end (end + length all)) (λ file is. (is.0, (is.1.0, omega (arith, is.1.1, few)), is.2)) appends.only;
  ok = IfOk-from_err s _ failed;
  others = λ at outside. appends.others at (λ between. outside (between.0, omega (arith, between.1, few)));
  no_new_gap = appends.no_new_gap;
  left = λ number moment content after le may.
      let was = appends.left number moment content after le may in
      (was.0, was.1, λ at here. torn_wider end (length some) at end (length all) (byte_in size at was.0) (byte_in size at content) (omega arith) (omega (arith, few)) (was.2 at here));
}

-- Nothing was appended so far, or the next place is the first of its chunk.
pub no_gap_here : (size end : ℕ) (done : List ℕ) (a b : Told) → NoGap size a.held (chunk_start size end) end → Appends size end done (Ok tt) a b → (at : ℕ) → at ≡ end + length done → (0 < length done → place_in_chunk size at ≡ 0)
    → NoGap size b.held (chunk_start size at) at
no_gap_here size end done a b no_gap appends at is border p between = elim (cases_lt 0 (length done)) [
  | inl some ↦ absurd (omega (arith, border some, between.0, between.1))
  | inr none ↦
      let same : at ≡ end = omega (arith, is, none) in
      let here : IsBetween (chunk_start size end) end p = subst (λ (n : ℕ). IsBetween (chunk_start size n) n p) same between in
      subst IsSome (sym (appends.others p (λ inside. absurd (omega (arith, inside.0, here.1))))) (no_gap p here)
]

-- a piece more of so many bytes
pub append_next : (size end : ℕ) (bytes : List ℕ) (done count : ℕ) (r : Result (Unit {0}) GroundFault) (a b c : Told) → done ≤ length bytes → Appends size end (take done bytes) (Ok tt) a b
    → Appends size (end + done) (take ((done + count) - done) (drop done bytes)) r b c → Appends size end (take (done + count) bytes) r a c
append_next size end bytes done count r a b c within first next =
    let piece = subst (λ (n : ℕ). Appends size (end + done) (take n (drop done bytes)) r b c) (omega arith) next in
    let behind = subst (λ (n : ℕ). Appends size (end + n) (take count (drop done bytes)) r b c) (sym (length-take-le done bytes within)) piece in
    subst (λ (l : List ℕ). Appends size end l r a c) (sym (take-add done count bytes)) (appends_both size end (take done bytes) (take count (drop done bytes)) r a b c first behind)

-- and no other file changes, whatever the files are
pub only_next : (size end : ℕ) (bytes : List ℕ) (done k : ℕ) (a b c : Told) → done ≤ length bytes → ChangesOnly (IsChunkBetween size end (end + length bytes)) a b
    → ChangesOnly (IsChunkBetween size (end + done) (end + done + length (take k (drop done bytes)))) b c → ChangesOnly (IsChunkBetween size end (end + length bytes)) a c
only_next size end bytes done k a b c within first next =
    only_on a b c (IsChunkBetween size end (end + length bytes)) first
    (only_more b c (IsChunkBetween size (end + done) (end + done + length (take k (drop done bytes)))) (IsChunkBetween size end (end + length bytes))
    (λ file is. (is.0, (omega (arith, is.1.0), omega (arith, is.1.1, length-take k (drop done bytes), length-drop done bytes, within)), is.2)) next)

-- ---- reads

-- These bytes were read, and they stand there. No file was changed.
pub record Read (size at : ℕ) (bytes : List ℕ) (old new : Told) : Type 0 where
  pub only : ChangesOnly NoFile old new
  pub stand : Stands (chunk_byte size old.held) at bytes

-- the places read as they did where no file was changed
pub byte_still : (size at : ℕ) (a b : Told) → ChangesOnly NoFile a b → chunk_byte size b.held at ≡ chunk_byte size a.held at
unfolding chunk_byte
byte_still size at a b only = ap (byte_in size at) ((only.others (Chunk (chunk_of size at)) (λ none. none)).held (λ x. x))

module _ (size at : ℕ) (front : List ℕ) (a b : Told) (first : Read size at front a b) (from : ℕ) (is : from ≡ at + length front) (out filled : List ℕ) (c : Told) where
  module _ (n : ℕ) (next : ReadsAt size from out filled (Ok n) b c) where
    pub reads_both : Read size at (front ++ take n filled) a c
    reads_both = record {
      only = only_on a b c NoFile first.only next.only;
      stand = stands_both (chunk_byte size a.held) at front (take n filled) first.stand
          (subst (λ (p : ℕ). Stands (chunk_byte size a.held) p (take n filled)) is (λ k lt. sym (byte_still size (from + k) a b first.only) ∙ next.bytes k lt));
    }

    pub gap_here : n < length out → chunk_byte size a.held (from + n) ≡ None
    gap_here short = sym (byte_still size (from + n) a b first.only) ∙ next.gap short

  pub reads_stopped : (all whole : List ℕ) (r s : Result ℕ GroundFault) → IsErr s → ReadsAt size from out filled r b c → ReadsAt size at all whole s a c
  reads_stopped all whole r s failed next = record { only = only_on a b c NoFile first.only next.only; bytes = IfOk-from_err s _ failed; gap = IfOk-from_err s _ failed }

-- a piece more of so many bytes, of which the next few stand
taken_more : (out ys : List ℕ) (done count got : ℕ) → done ≤ length out → got ≤ length ys → take (done + got) (put_mid done count out ys) ≡ take done out ++ take got ys
taken_more out ys done count got within few =
    ap (λ (n : ℕ). take (n + got) (put_mid done count out ys)) (sym (length-take-le done out within)) ∙ take-append-add (take done out) (ys ++ post_of done count out) got
    ∙ ap (λ l. take done out ++ l) (take-append-le got ys (post_of done count out) few)

pub length-put_mid : (out ys : List ℕ) (done count : ℕ) → done + count ≤ length out → length ys ≡ count → length (put_mid done count out ys) ≡ length out
length-put_mid out ys done count within all =
    omega (arith, length-append (take done out) (ys ++ drop count (drop done out)), length-append ys (drop count (drop done out)), length-take-le done out, length-drop count (drop done out), length-drop done out, within, all)

pub read_next : (size at : ℕ) (out ys piece : List ℕ) (done count got : ℕ) (a b c : Told) → done ≤ length out → got ≤ length ys → Read size at (take done out) a b → ReadsAt size (at + done) piece ys (Ok got) b c
    → Read size at (take (done + got) (put_mid done count out ys)) a c
read_next size at out ys piece done count got a b c within few first next =
    subst (λ (l : List ℕ). Read size at l a c) (sym (taken_more out ys done count got within few))
    (reads_both size at (take done out) a b first (at + done) (ap (λ (n : ℕ). at + n) (sym (length-take-le done out within))) piece ys c got next)

module _ (size at n : ℕ) (out filled : List ℕ) (a b : Told) (read : Read size at (take n filled) a b) where
  pub reads_short : chunk_byte size a.held (at + n) ≡ None → ReadsAt size at out filled (Ok n) a b
  reads_short gap = record { only = read.only; bytes = read.stand; gap = λ short. gap }
