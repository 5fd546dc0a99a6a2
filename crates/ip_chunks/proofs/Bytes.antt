-- Bytes from a place on.
use Rattle.std.proofs.Common.{◌≡◌, ℕ, ◌+◌, ◌-◌, ◌<◌, ◌≤◌, List, ◌∷◌, ◌++◌, length, get_or, Option, Some, None, Bool, true, zero, suc, inl, inr, refl, sym, ◌∙◌, ap, subst, arith, length-append}
use Rattle.std.proofs.lemmas.Bool.{false≢true, cases_lt}
use Rattle.std.proofs.lemmas.List.{ext_get_or, get_or_append_left, get_or-append_right}
use Rattle.std.proofs.lemmas.Option.{slice_get-get_or, same_Some}
use Rattle.std.specs.Prelude.{is_some, IsSome, filter_map, nat_le, if◌then◌else◌}
use Rattle.std.specs.List.{range_with_len, cons_option}
use Rattle.std.specs.Option.{option_and_then}
use Rattle.std.proofs.lemmas.Bool.Decides.{nat_tests}
use Rattle.ip_ground.specs.declared.names.FileName.TheVariants.{Chunk, Prefix}
use Rattle.ip_ground.specs.Contents.{Image}
use Rattle.ip_image.specs.Virtual.{Stands, byte_of, chunk_of, place_in_chunk, locate, virtual_byte}
use Rattle.ip_image.specs.declared.layout.Layout.{Layout}
use Rattle.ip_image.specs.declared.run.Run.{Run}
use Rattle.ip_image.specs.Pending.{SameChunks}
use Rattle.ip_chunks.specs.Places.{chunk_byte, NoGap}
use Rattle.ip_chunks.specs.Fronts.{Holds, bytes_from}

-- a byte of a list, in its two forms
pub elements_stand : (f : ℕ → Option ℕ) (at : ℕ) (bytes : List ℕ) (k : ℕ) → Stands f at bytes → k < length bytes → f (at + k) ≡ Some (get_or bytes k 0)
elements_stand f at bytes k stands lt = stands k lt ∙ slice_get-get_or bytes k 0 lt

pub stands_some : (f : ℕ → Option ℕ) (at : ℕ) (bytes : List ℕ) (k : ℕ) → Stands f at bytes → k < length bytes → IsSome (f (at + k))
stands_some f at bytes k stands lt = ap is_some (elements_stand f at bytes k stands lt)

-- the first bytes of those that stand, and those behind them
module _ (f : ℕ → Option ℕ) (at : ℕ) (front rest : List ℕ) where
  pub stands_front : Stands f at (front ++ rest) → Stands f at front
  stands_front stands k lt =
      elements_stand f at (front ++ rest) k stands (omega (arith, length-append front rest, lt)) ∙ ap Some (get_or_append_left front rest 0 k lt) ∙ sym (slice_get-get_or front k 0 lt)

  pub stands_both : Stands f at front → Stands f (at + length front) rest → Stands f at (front ++ rest)
  stands_both first later k lt = elim (cases_lt k (length front)) [
    | inl early ↦
        elements_stand f at front k first early ∙ sym (ap Some (get_or_append_left front rest 0 k early)) ∙ sym (slice_get-get_or (front ++ rest) k 0 lt)
    | inr late ↦
        let inside : k - length front < length rest = omega (arith, length-append front rest, lt, late) in
        ap f (omega (arith, late)) ∙ elements_stand f (at + length front) rest (k - length front) later inside
        ∙ sym (ap Some (get_or-append_right front rest (length front) k 0 refl late)) ∙ sym (slice_get-get_or (front ++ rest) k 0 lt)
  ]

  pub stands_behind : Stands f at (front ++ rest) → Stands f (at + length front) rest
  stands_behind stands k lt =
      let inside : length front + k < length (front ++ rest) = omega (arith, length-append front rest, lt) in
      ap f (omega arith) ∙ elements_stand f at (front ++ rest) (length front + k) stands inside
      ∙ ap Some (get_or-append_right front rest (length front) (length front + k) 0 refl (omega arith) ∙ ap (λ (n : ℕ). get_or rest n 0) (omega arith)) ∙ sym (slice_get-get_or rest k 0 lt)

-- bytes that stand from one place on are the same as far as they go
pub same_bytes : (f : ℕ → Option ℕ) (at : ℕ) (xs ys : List ℕ) → length xs ≡ length ys → Stands f at xs → Stands f at ys → xs ≡ ys
same_bytes f at xs ys long in_xs in_ys =
    ext_get_or 0 xs ys long (λ k lt. same_Some _ _ (sym (elements_stand f at xs k in_xs lt) ∙ elements_stand f at ys k in_ys (omega (arith, long, lt))))

-- the bytes of a run of places without a gap
module _ (f : ℕ → Option ℕ) where
  abbrev Found : ℕ → ℕ → List ℕ → Type 0
  Found at n bytes = (length bytes ≡ n) × Stands f at bytes

  found_more : (at n : ℕ) (byte : Option ℕ) (rest : List ℕ) → f at ≡ byte → IsSome byte → Found (at + 1) n rest → Found at (suc n) (cons_option byte rest)
  found_more at n None rest is there found = absurd (false≢true there)
  found_more at n (Some x) rest is there found = (ap suc found.0, by)
    where
      by : Stands f at (x ∷ rest)
      by zero lt = ap f (omega arith) ∙ is
      by (suc k) lt = ap f (omega arith) ∙ found.1 k (omega (arith, lt))

  pub all_found : (at n : ℕ) → ((k : ℕ) → k < n → IsSome (f (at + k))) → Found at n (filter_map f (range_with_len at n))
  all_found at zero there = (refl, λ k lt. absurd (omega (arith, lt)))
  all_found at (suc n) there =
      found_more at n (f at) (filter_map f (range_with_len (at + 1) n)) refl (subst (λ (p : ℕ). IsSome (f p)) (omega arith) (there 0 (omega arith)))
      (all_found (at + 1) n (λ k lt. subst (λ (p : ℕ). IsSome (f p)) (omega arith) (there (k + 1) (omega (arith, lt)))))

-- ---- the bytes of an image

pub no_gap_from : (size at : ℕ) (bytes : List ℕ) (image : Image) → Holds size at bytes image → NoGap size image at (at + length bytes)
no_gap_from size at bytes image holds p between =
    subst (λ (q : ℕ). IsSome (chunk_byte size image q)) (omega (arith, between.0)) (stands_some (chunk_byte size image) at bytes (p - at) holds (omega (arith, between.0, between.1)))

module _ (size at n : ℕ) (image : Image) (no_gap : NoGap size image at (at + n)) where
  found : (length (bytes_from size image at n) ≡ n) × Holds size at (bytes_from size image at n) image
  unfolding bytes_from
  found = all_found (chunk_byte size image) at n (λ k lt. no_gap (at + k) (omega arith, omega (arith, lt)))

  pub some_bytes : Holds size at (bytes_from size image at n) image
  some_bytes = found.1

  pub length-bytes_from : length (bytes_from size image at n) ≡ n
  length-bytes_from = found.0

pub one_bytes : (size at : ℕ) (bytes : List ℕ) (image : Image) → Holds size at bytes image → bytes_from size image at (length bytes) ≡ bytes
one_bytes size at bytes image holds =
    let no_gap = no_gap_from size at bytes image holds in
    same_bytes (chunk_byte size image) at (bytes_from size image at (length bytes)) bytes (length-bytes_from size at (length bytes) image no_gap) (some_bytes size at (length bytes) image no_gap) holds

-- another image that has them has the same byte at each place, and the other way round
module _ (size at n : ℕ) (image other : Image) (no_gap : NoGap size image at (at + n)) where
  pub same_places : Holds size at (bytes_from size image at n) other → SameChunks size at (at + n) image other
  same_places holds place low high =
      let inside : place - at < length (bytes_from size image at n) = omega (arith, length-bytes_from size at n image no_gap, low, high) in
      subst (λ (p : ℕ). chunk_byte size other p ≡ chunk_byte size image p) (omega (arith, low)) (holds (place - at) inside ∙ sym (some_bytes size at n image no_gap (place - at) inside))

  pub places_same : SameChunks size at (at + n) image other → Holds size at (bytes_from size image at n) other
  places_same same k lt = same (at + k) (omega arith) (omega (arith, length-bytes_from size at n image no_gap, lt)) ∙ some_bytes size at n image no_gap k lt

-- ---- in the words of an image

le_test : (m n : ℕ) → m ≤ n → nat_le m n ≡ true
le_test m n le = grind (arith, nat_tests)

pub virtual_bytes : (image : Image) (s : Layout) (runs : List Run) (at : ℕ) → s.horizon ≤ at → virtual_byte image s runs at ≡ chunk_byte s.chunk image at
unfolding virtual_byte chunk_byte
virtual_bytes image s runs at from =
    ap (λ (test : Bool). if test then byte_of (image (Chunk (chunk_of s.chunk at))) (place_in_chunk s.chunk at) else option_and_then (λ place. byte_of (image (Prefix s.live)) place) (locate runs at)) (le_test s.horizon at from)
