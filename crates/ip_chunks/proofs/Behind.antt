-- For whoever knows that the bytes up to an end are kept, and writes behind it.
--     leaves_on, since_on      what a crash leaves goes on over moments.      leaves_stay, byte_stays, holds_stay      over calls that change no chunk
--     stand_from, leaves_from_kept      what a crash leaves, the files read as, and back.      images_hold, images_with      it is in each image
--     no_gap_before, reaches_start      an append may follow.      front_holds, front_ends, holds_front      the front, by its places, and of more bytes.      stops_at_append, appends_kept      the exits of an append and a sync behind it
use Rattle.std.proofs.Common.{◌≡◌, ℕ, ◌+◌, ◌-◌, ◌<◌, ◌≤◌, List, ◌++◌, length, Bool, Some, inl, inr, refl, sym, ◌∙◌, ap, subst, arith, length-append}
use Rattle.std.specs.Prelude.{is_some, IsSome, IsTrue, slice_get, Result, Ok, IsErr}
use Rattle.std.proofs.lemmas.Bool.{cases_lt}
use Rattle.std.proofs.lemmas.List.{get_or_append_left}
use Rattle.std.proofs.lemmas.Option.{slice_get-get_or}
use Rattle.std.proofs.lemmas.Result.{IfOk-from_err, on_ok_weaker}
use Rattle.ip_ground.specs.declared.names.FileName.{FileName}
use Rattle.ip_ground.specs.declared.names.FileName.TheVariants.{Chunk}
use Rattle.ip_ground.specs.declared.names.GroundFault.{GroundFault}
use Rattle.ip_ground.specs.Contents.{Content, Image}
use Rattle.ip_ground.specs.Told.{Told, said, KeepsPast, SyncsAtMost, KeepsSaid, EachSince, EachImage, EachImageNow, IsAbout, IsPossibleNow, IsSynced}
use Rattle.ip_ground.proofs.Exits.{Exit, exit_ok, exit_holds}
use Rattle.ip_ground.proofs.Spans.{goes_on, only_on, each_on, each_synced, each_steps, left_now}
use Rattle.ip_image.specs.Slot.{IsChunkSize}
use Rattle.ip_image.specs.Virtual.{byte_of, chunk_of, place_in_chunk}
use Rattle.ip_chunks.specs.Places.{chunk_file, chunk_start, byte_in, chunk_byte, NoGap, IsChunkBetween}
use Rattle.ip_chunks.specs.Effects.{TornChunk, Appends, SyncsRange}
use Rattle.ip_chunks.specs.Fronts.{Holds, Leaves, LeavesSince, AppendsKept, bytes_from}
use Rattle.ip_chunks.proofs.Borders.{some_size, chunk_from_start, together}
use Rattle.ip_chunks.proofs.Gaps.{reaches_back}
use Rattle.ip_chunks.proofs.Bytes.{some_bytes, length-bytes_from, stands_front, stands_both}

module _ (size at : ℕ) (bytes : List ℕ) where
  -- the byte of one of the places
  abbrev Has : ℕ → Content → Type 0
  Has k content = byte_in size (at + k) content ≡ slice_get bytes k

  pub leaves_on : (a b : Told) → KeepsPast a b → Leaves size at bytes a → LeavesSince size at bytes a b → Leaves size at bytes b
  leaves_on a b goes now since k lt = left_now a b (chunk_file size (at + k)) (Has k) goes (now k lt) (since k lt)

  pub since_on : (a b c : Told) → KeepsPast b c → LeavesSince size at bytes a b → LeavesSince size at bytes b c → LeavesSince size at bytes a c
  since_on a b c next first onward k lt = each_on a b c (chunk_file size (at + k)) (Has k) next (first k lt) (onward k lt)

  pub leaves_stay : (a b : Told) → ((number : ℕ) → SyncsAtMost a b (Chunk number)) → Leaves size at bytes a → LeavesSince size at bytes a b
  leaves_stay a b stays now k lt = each_synced a b (chunk_file size (at + k)) (Has k) (λ x. x) (stays (chunk_of size (at + k))) (now k lt)

  pub stand_from : (told : Told) → IsPossibleNow told → Leaves size at bytes told → Holds size at bytes told.held
  unfolding chunk_byte
  stand_from told possible leaves k lt = leaves k lt (told.held (chunk_file size (at + k))) (possible (chunk_file size (at + k)))

  -- and where nothing of their chunks is pending, a crash leaves what they read as
  pub leaves_from_kept : (told : Told) → ((k : ℕ) → k < length bytes → IsSynced told (chunk_file size (at + k))) → Holds size at bytes told.held → Leaves size at bytes told
  unfolding chunk_byte
  leaves_from_kept told kept holds k lt content may = ap (byte_in size (at + k)) (kept k lt content may) ∙ holds k lt

  pub images_hold : (a b : Told) → LeavesSince size at bytes a b → EachImage a b (λ said image. Holds size at bytes image)
  unfolding chunk_byte
  images_hold a b since moment image after le possible k lt = since k lt moment (image (chunk_file size (at + k))) after le (possible (chunk_file size (at + k)))

  pub images_hold_now : (told : Told) → Leaves size at bytes told → EachImageNow told (Holds size at bytes)
  unfolding chunk_byte
  images_hold_now told leaves image possible k lt = leaves k lt (image (chunk_file size (at + k))) (possible (chunk_file size (at + k)))

  -- images of which the bytes and one more file matter, while nothing is said
  pub images_with : (a b : Told) (file : FileName) (A : Content → Type 0) (P : List ℕ → Image → Type 0) → KeepsSaid a b → EachSince a b file A → LeavesSince size at bytes a b
      → ((image : Image) → A (image file) → Holds size at bytes image → P (said a) image) → EachImage a b P
  images_with a b file A P quiet of_file since so moment image after le possible =
      subst (λ s. P s image) (sym (quiet moment after le)) (so image (of_file moment (image file) after le (possible file)) (images_hold a b since moment image after le possible))

  -- that bytes stand is a fact about the chunks alone
  pub about_chunks : (these : FileName → Bool) → ((number : ℕ) → IsTrue (these (Chunk number))) → IsAbout these (Holds size at bytes)
  unfolding chunk_byte
  about_chunks these chunks one other same holds k lt = ap (byte_in size (at + k)) (sym (same (chunk_file size (at + k)) (chunks (chunk_of size (at + k))))) ∙ holds k lt

-- the first bytes of those that a crash leaves
same_front : (front rest : List ℕ) (k : ℕ) → k < length front → slice_get (front ++ rest) k ≡ slice_get front k
same_front front rest k lt = slice_get-get_or (front ++ rest) k 0 (omega (arith, length-append front rest, lt)) ∙ ap Some (get_or_append_left front rest 0 k lt) ∙ sym (slice_get-get_or front k 0 lt)

pub leaves_front : (size at : ℕ) (front rest : List ℕ) (told : Told) → Leaves size at (front ++ rest) told → Leaves size at front told
leaves_front size at front rest told leaves k lt content may = leaves k (omega (arith, length-append front rest, lt)) content may ∙ same_front front rest k lt

-- what the places read as, over calls that change no chunk
pub byte_stays : (size at : ℕ) (a b : Told) → ((number : ℕ) → SyncsAtMost a b (Chunk number)) → chunk_byte size b.held at ≡ chunk_byte size a.held at
unfolding chunk_byte
byte_stays size at a b stays = ap (byte_in size at) ((stays (chunk_of size at)).held (λ x. x))

pub holds_stay : (size at : ℕ) (bytes : List ℕ) (a b : Told) → ((number : ℕ) → SyncsAtMost a b (Chunk number)) → Holds size at bytes a.held → Holds size at bytes b.held
holds_stay size at bytes a b stays holds k lt = byte_stays size (at + k) a b stays ∙ holds k lt

-- an append may follow bytes that begin not behind its chunk
pub no_gap_before : (size from end : ℕ) (image : Image) → from ≤ chunk_start size end → NoGap size image from end → NoGap size image (chunk_start size end) end
no_gap_before size from end image before no_gap at between = no_gap at (omega (arith, before, between.0), between.1)

-- a file that reaches a place reaches each before it, so there is none from the start of its chunk either
module _ (size from end : ℕ) (size_is : IsChunkSize size) (image : Image) (some_place : from < end) (no_gap : NoGap size image from end) where
  in_front : (at : ℕ) → chunk_start size end ≤ at → at < end → (chunk_of size at ≡ chunk_of size end) × (chunk_of size (end - 1) ≡ chunk_of size end)
  in_front at high low =
      let some = some_size size size_is in
      (chunk_from_start size some end at high (omega (arith, low)), chunk_from_start size some end (end - 1) (omega (arith, high, low)) (omega arith))

  from_last : (at : ℕ) → chunk_start size end ≤ at → at < end → IsSome (chunk_byte size image at)
  unfolding chunk_byte
  from_last at high low =
      let some = some_size size size_is in
      let same = in_front at high low in
      let apart = together size some at (end - 1) (same.0 ∙ sym same.1) in
      let last = subst (λ (n : ℕ). IsSome (byte_of (image (Chunk n)) (place_in_chunk size (end - 1)))) (same.1 ∙ sym same.0) (no_gap (end - 1) (omega (arith, some_place), omega (arith, some_place))) in
      reaches_back (image (Chunk (chunk_of size at))) (place_in_chunk size at) (place_in_chunk size (end - 1)) (omega (arith, apart, low)) last

  pub reaches_start : NoGap size image (chunk_start size end) end
  reaches_start at between = from_last at between.0 between.1

-- the n bytes up to an end, where there is no gap in front of it
module _ (size from n end : ℕ) (ends : from + n ≡ end) (image : Image) (no_gap : NoGap size image from end) where
  no_gap_on : NoGap size image from (from + n)
  no_gap_on at between = no_gap at (between.0, omega (arith, between.1, ends))

  pub front_holds : Holds size from (bytes_from size image from n) image
  front_holds = some_bytes size from n image no_gap_on

  pub front_ends : from + length (bytes_from size image from n) ≡ end
  front_ends = omega (arith, length-bytes_from size from n image no_gap_on, ends)

-- the first bytes of those that an image has
pub holds_front : (size at : ℕ) (front rest : List ℕ) (image : Image) → Holds size at (front ++ rest) image → Holds size at front image
holds_front size at front rest image holds = stands_front (chunk_byte size image) at front rest holds

module _ (size from end : ℕ) (front bytes : List ℕ) (ends : from + length front ≡ end) (a b : Told) (holds : Holds size from front a.held) (r : Result (Unit {0}) GroundFault) (appends : Appends size end bytes r a b) where
  -- a byte of the front is torn by no append behind it
  front_since : Leaves size from front a → LeavesSince size from front a b
  front_since leaves k lt =
      each_steps a b (chunk_file size (from + k)) (Has size from front k) (Has size from front k) (TornChunk size end (length bytes) (chunk_of size (from + k))) (appends.left (chunk_of size (from + k))) (leaves k lt)
      (λ x y was torn. (torn (from + k) refl).before (omega (arith, lt, ends)) (subst IsSome (sym was) (ap is_some (slice_get-get_or front k 0 lt))) ∙ was)

  front_stands : Holds size from front b.held
  front_stands k lt = appends.others (from + k) (λ between. absurd (omega (arith, between.0, lt, ends))) ∙ holds k lt

  behind_bytes : (at : ℕ) → end + length bytes ≤ at → chunk_byte size b.held at ≡ chunk_byte size a.held at
  behind_bytes at far = appends.others at (λ between. absurd (omega (arith, between.1, far)))

  pub stops_at_append : (s : Result (Unit {0}) GroundFault) → IsErr s → AppendsKept size from end front bytes s a b
  stops_at_append s failed = record { only = appends.only; behind = behind_bytes; held = IfOk-from_err s _ failed; synced = IfOk-from_err s _ failed; since = front_since; kept = λ leaves. IfOk-from_err s _ failed }

module _ (size from end : ℕ) (front bytes : List ℕ) (ends : from + length front ≡ end) (a b c : Told) (holds : Holds size from front a.held) (appends : Appends size end bytes (Ok tt) a b)
    (r : Result (Unit {0}) GroundFault) (syncs : SyncsRange size end (end + length bytes) r b c) where
  stays : (number : ℕ) → SyncsAtMost b c (Chunk number)
  stays number = syncs.only.files (Chunk number)

  both_stand : Holds size from (front ++ bytes) c.held
  both_stand =
      holds_stay size from (front ++ bytes) b c stays
      (stands_both (chunk_byte size b.held) from front bytes (front_stands size from end front bytes ends a b holds (Ok tt) appends) (subst (λ (p : ℕ). Holds size p bytes b.held) (sym ends) appends.ok))

  since_both : Leaves size from front a → LeavesSince size from front a c
  since_both leaves =
      let first = front_since size from end front bytes ends a b holds (Ok tt) appends leaves in
      since_on size from front a b c syncs.only.changes.goes first (leaves_stay size from front b c stays (leaves_on size from front a b appends.only.goes leaves first))

  -- of a place in front a crash leaves what it left, of one behind what its synced chunk reads as
  both_left : Leaves size from front a → ((file : FileName) → IsChunkBetween size end (end + length bytes) file → IsSynced c file) → Leaves size from (front ++ bytes) c
  unfolding chunk_byte
  both_left leaves kept k lt content may = elim (cases_lt k (length front)) [
    | inl early ↦ leaves_on size from front a c (goes_on a b c appends.only.goes syncs.only.changes.goes) leaves (since_both leaves) k early content may ∙ sym (same_front front bytes k early)
    | inr late ↦
        ap (byte_in size (from + k)) (kept (chunk_file size (from + k)) (from + k, (omega (arith, late, ends), omega (arith, lt, ends, length-append front bytes)), refl) content may)
        ∙ both_stand k lt
  ]

  pub appends_kept : (s : Result (Unit {0}) GroundFault) → Exit r s → AppendsKept size from end front bytes s a c
  appends_kept s exit = record {
    only = only_on a b c (IsChunkBetween size end (end + length bytes)) appends.only syncs.only.changes;
    behind = λ at far. byte_stays size at b c stays ∙ behind_bytes size from end front bytes ends a b holds (Ok tt) appends at far;
    held = exit_holds r s _ exit both_stand;
    synced = exit_ok r s _ exit syncs.ok;
    since = since_both;
    kept = λ leaves. on_ok_weaker s (both_left leaves) (exit_ok r s _ exit syncs.ok);
  }
