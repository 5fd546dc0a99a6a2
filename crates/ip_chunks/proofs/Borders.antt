-- Which chunk a place lies in, and where in it.
--     split, below      a place by its chunk and its place in it.      in_chunk      and back
--     chunk_on, place_on      places behind one, in its chunk.      chunk_from_start, place_from_start      and in front of it
--     together      two places of one chunk lie as far from each other as in the chunk
--     next_border, border_next      the place behind a chunk, and behind a piece
--     chunk_up, chunk_between      chunks are in the order of their places; which hold a place of a range
use Rattle.std.proofs.Common.{◌≡◌, ℕ, ◌+◌, ◌-◌, ◌*◌, ◌<◌, ◌≤◌, min, suc, inl, inr, sym, ◌∙◌, ap, subst, arith}
use native.Mathlib.Nat.{suc-mul}
use Rattle.std.proofs.lemmas.Bool.{cases_lt}
use Rattle.std.proofs.lemmas.Nat.{pow_pos, div-add-mod', div-mul-add, mod-mul-add, mod_below, mul-le, le-div}
use Rattle.ip_image.specs.Slot.{IsChunkSize}
use Rattle.ip_image.specs.Virtual.{chunk_of, place_in_chunk}
use Rattle.ip_chunks.specs.Places.{chunk_start, IsBetween}

pub some_size : (size : ℕ) → IsChunkSize size → 0 < size
some_size size is = subst (λ (n : ℕ). 0 < n) (sym is.3) (pow_pos is.0)

module _ (size : ℕ) (some : 0 < size) where
  pub split : (at : ℕ) → chunk_of size at * size + place_in_chunk size at ≡ at
  split at = div-add-mod' at size

  pub below : (at : ℕ) → place_in_chunk size at < size
  below at = mod_below at size some

  pub in_chunk : (at number place : ℕ) → place < size → number * size + place ≡ at → chunk_of size at ≡ number
  in_chunk at number place fits is = ap (λ (n : ℕ). chunk_of size n) (sym is) ∙ div-mul-add number size place fits

  pub place_there : (at number place : ℕ) → place < size → number * size + place ≡ at → place_in_chunk size at ≡ place
  place_there at number place fits is = ap (λ (n : ℕ). place_in_chunk size n) (sym is) ∙ mod-mul-add number size place fits

  module _ (at k : ℕ) (fits : place_in_chunk size at + k < size) where
    on : chunk_of size at * size + (place_in_chunk size at + k) ≡ at + k
    on = omega (arith, split at)

    pub chunk_on : chunk_of size (at + k) ≡ chunk_of size at
    chunk_on = in_chunk (at + k) (chunk_of size at) (place_in_chunk size at + k) fits on

    pub place_on : place_in_chunk size (at + k) ≡ place_in_chunk size at + k
    place_on = place_there (at + k) (chunk_of size at) (place_in_chunk size at + k) fits on

  -- the place behind the last of a chunk is the first of the next
  pub next_border : (at : ℕ) → place_in_chunk size (at + (size - place_in_chunk size at)) ≡ 0
  next_border at = place_there (at + (size - place_in_chunk size at)) (suc (chunk_of size at)) 0 some (omega (arith, suc-mul (chunk_of size at) size, split at, below at))

  pub start_of : (at : ℕ) → chunk_start size at ≡ chunk_of size at * size
  start_of at = omega (arith, split at)

  module _ (at from : ℕ) (high : chunk_start size at ≤ from) (low : from ≤ at) where
    back : chunk_of size at * size + (from - chunk_start size at) ≡ from
    back = omega (arith, start_of at, high)

    back_fits : from - chunk_start size at < size
    back_fits = omega (arith, start_of at, split at, below at, low)

    pub chunk_from_start : chunk_of size from ≡ chunk_of size at
    chunk_from_start = in_chunk from (chunk_of size at) (from - chunk_start size at) back_fits back

  module _ (p q : ℕ) (same : chunk_of size p ≡ chunk_of size q) where
    starts : chunk_of size p * size ≡ chunk_of size q * size
    starts = ap (λ (n : ℕ). n * size) same

    pub together : p + place_in_chunk size q ≡ q + place_in_chunk size p
    together = omega (arith, starts, split p, split q)

    pub start_before : chunk_start size q ≤ p
    start_before = omega (arith, starts, split p, split q)

  pub chunk_up : (p q : ℕ) → p ≤ q → chunk_of size p ≤ chunk_of size q
  chunk_up p q le = le-div (chunk_of size p) q size some (omega (arith, split p, le))

  -- each chunk from that of the first place up to that of the last holds a place of the range
  pub chunk_between : (from to number : ℕ) → from < to → chunk_of size from ≤ number → number ≤ chunk_of size (to - 1) → (at : ℕ) × IsBetween from to at × (number ≡ chunk_of size at)
  chunk_between from to number some_place high low = elim (cases_lt (number * size) from) [
    | inl before ↦ (from, (omega arith, some_place), by before)
    | inr behind ↦ (number * size, (behind, omega (arith, starts_low, split (to - 1), some_place)), sym (in_chunk (number * size) number 0 some (omega arith)))
  ]
    where
      starts_low : number * size ≤ chunk_of size (to - 1) * size
      starts_low = mul-le number size (chunk_of size (to - 1)) size low (omega arith)

      by : number * size < from → number ≡ chunk_of size from
      by before = let le : number ≤ chunk_of size from = le-div number from size some (omega (arith, before)) in omega (arith, le, high)

-- behind a piece that is not the last begins another chunk
pub border_next : (size end done long count : ℕ) → 0 < size → count ≡ min (long - done) (size - place_in_chunk size (end + done)) → done + count < long → place_in_chunk size (end + (done + count)) ≡ 0
border_next size end done long count some is more = ap (λ (n : ℕ). place_in_chunk size n) (omega (arith, is, more)) ∙ next_border size some (end + done)
