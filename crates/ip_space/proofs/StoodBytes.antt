-- Bytes that stand from a place on.
--     all_from, front_from      they are all, or the front, of what is read there
--     stands_both, stands_drop      two parts, and the second one
--     shows_alike, up_to_alike      where each byte is what it was
use Rattle.std.proofs.Common.{◌≡◌, ◌⊎◌, inl, inr, ℕ, zero, suc, ◌+◌, ◌-◌, ◌<◌, ◌≤◌, [], ◌∷◌, ◌++◌, length, drop, refl, sym, ◌∙◌, ap, subst, arith, length-append, length-drop}
use Rattle.std.specs.Prelude.{slice_get, Option, Some, None}
use Rattle.std.proofs.lemmas.Bool.{cases_lt}
use Rattle.ip_spec.specs.Path.{Bytes}
use Rattle.ip_image.specs.Virtual.{Stands}
use Rattle.ip_image.specs.Stored.{bytes_from}
use Rattle.ip_space.specs.Ahead.{Shows, IsUpTo}

later : (f : ℕ → Option ℕ) (b : ℕ) (bytes : Bytes) (at : ℕ) → Stands f at (b ∷ bytes) → Stands f (suc at) bytes
later f b bytes at stands k below = subst (λ (m : ℕ). f m ≡ slice_get bytes k) (omega arith) (stands (suc k) (omega (arith, below)))

first : (f : ℕ → Option ℕ) (b : ℕ) (bytes : Bytes) (at : ℕ) → Stands f at (b ∷ bytes) → f at ≡ Some b
first f b bytes at stands = subst (λ (m : ℕ). f m ≡ Some b) (omega arith) (stands 0 (omega arith))

step : (f : ℕ → Option ℕ) (at n : ℕ) (o : Option ℕ) → f at ≡ o → bytes_from f at (suc n) ≡ elim o [ None ↦ [] | Some b ↦ b ∷ bytes_from f (suc at) n ]
step f at n o is = ap (λ (o : Option ℕ). elim o [ None ↦ [] | Some b ↦ b ∷ bytes_from f (suc at) n ]) is

pub front_from : (f : ℕ → Option ℕ) (bytes : Bytes) (at n : ℕ) → Stands f at bytes → length bytes ≤ n → (rest : Bytes) × (bytes_from f at n ≡ bytes ++ rest)
front_from f [] at n stands le = (bytes_from f at n, refl)
front_from f (b ∷ bytes) at zero stands le = absurd (omega (arith, le))
front_from f (b ∷ bytes) at (suc n) stands le =
    let deep = front_from f bytes (suc at) n (later f b bytes at stands) (omega (arith, le)) in
    (deep.0, step f at n (Some b) (first f b bytes at stands) ∙ ap (λ (l : Bytes). b ∷ l) deep.1)

pub all_from : (f : ℕ → Option ℕ) (bytes : Bytes) (at n : ℕ) → Stands f at bytes → length bytes ≤ n → (length bytes ≡ n) ⊎ (f (at + length bytes) ≡ None) → bytes_from f at n ≡ bytes
all_from f [] at zero stands le up = refl
all_from f [] at (suc n) stands le (inl full) = absurd (omega (arith, full))
all_from f [] at (suc n) stands le (inr gap) = step f at n None (subst (λ (m : ℕ). f m ≡ None) (omega arith) gap)
all_from f (b ∷ bytes) at zero stands le up = absurd (omega (arith, le))
all_from f (b ∷ bytes) at (suc n) stands le (inl full) =
    step f at n (Some b) (first f b bytes at stands) ∙ ap (λ (l : Bytes). b ∷ l) (all_from f bytes (suc at) n (later f b bytes at stands) (omega (arith, le)) (inl (omega (arith, full))))
all_from f (b ∷ bytes) at (suc n) stands le (inr gap) =
    step f at n (Some b) (first f b bytes at stands)
    ∙ ap (λ (l : Bytes). b ∷ l) (all_from f bytes (suc at) n (later f b bytes at stands) (omega (arith, le)) (inr (subst (λ (m : ℕ). f m ≡ None) (omega arith) gap)))

within : (xs ys : Bytes) (k : ℕ) → k < length xs → slice_get (xs ++ ys) k ≡ slice_get xs k
within [] ys k below = absurd (omega (arith, below))
within (x ∷ xs) ys zero below = refl
within (x ∷ xs) ys (suc k) below = within xs ys k (omega (arith, below))

behind : (xs ys : Bytes) (k : ℕ) → slice_get (xs ++ ys) (length xs + k) ≡ slice_get ys k
behind [] ys k = let e : 0 + k ≡ k = omega arith in ap (slice_get ys) e
behind (x ∷ xs) ys k = let e : suc (length xs) + k ≡ suc (length xs + k) = omega arith in ap (slice_get (x ∷ (xs ++ ys))) e ∙ behind xs ys k

pub stands_both : (f : ℕ → Option ℕ) (at : ℕ) (xs ys : Bytes) → Stands f at xs → Stands f (at + length xs) ys → Stands f at (xs ++ ys)
stands_both f at xs ys one two k below = elim (cases_lt k (length xs)) [
  | inl front ↦ one k front ∙ sym (within xs ys k front)
  | inr back ↦
      let l = length-append xs ys in
      let place : at + k ≡ at + length xs + (k - length xs) = omega (arith, back) in
      let index : length xs + (k - length xs) ≡ k = omega (arith, back) in
      ap f place ∙ two (k - length xs) (omega (arith, l, below, back)) ∙ sym (behind xs ys (k - length xs)) ∙ ap (slice_get (xs ++ ys)) index
]

pub stands_front : (f : ℕ → Option ℕ) (at : ℕ) (xs ys : Bytes) → Stands f at (xs ++ ys) → Stands f at xs
stands_front f at xs ys stands k below = stands k (let l = length-append xs ys in omega (arith, l, below)) ∙ within xs ys k below

-- behind a place without a byte none stands
pub gap_ends : (f : ℕ → Option ℕ) (at : ℕ) (xs ys : Bytes) → Stands f at (xs ++ ys) → f (at + length xs) ≡ None → ys ≡ []
gap_ends f at xs [] stands gap = refl
gap_ends f at xs (y ∷ ys) stands gap =
    let l = length-append xs (y ∷ ys) in
    let index : length xs ≡ length xs + 0 = omega arith in
    let here : f (at + length xs) ≡ Some y = stands (length xs) (omega (arith, l)) ∙ ap (slice_get (xs ++ y ∷ ys)) index ∙ behind xs (y ∷ ys) 0 in
    absurd (cc (here, gap))

dropped : (n k : ℕ) (xs : Bytes) → slice_get (drop n xs) k ≡ slice_get xs (n + k)
dropped zero k xs = let e : k ≡ 0 + k = omega arith in ap (slice_get xs) e
dropped (suc n) k [] = refl
dropped (suc n) k (x ∷ xs) = dropped n k xs ∙ (let e : suc (n + k) ≡ suc n + k = omega arith in ap (slice_get (x ∷ xs)) e)

pub stands_drop : (f : ℕ → Option ℕ) (at n : ℕ) (xs : Bytes) → Stands f at xs → Stands f (at + n) (drop n xs)
stands_drop f at n xs stands k below =
    let place : at + n + k ≡ at + (n + k) = omega arith in
    let size = length-drop n xs in
    ap f place ∙ stands (n + k) (omega (arith, below, size)) ∙ sym (dropped n k xs)

-- ---- where each byte is what it was

module _ (f g : ℕ → Option ℕ) (same : (at : ℕ) → g at ≡ f at) (end at : ℕ) (bytes : Bytes) where
  pub shows_alike : Shows f end at bytes → Shows g end at bytes
  shows_alike shows = record { stands = λ k below. same (at + k) ∙ shows.stands k below; inside = shows.inside }

  pub up_to_alike : IsUpTo f end at bytes → IsUpTo g end at bytes
  up_to_alike (inl full) = inl full
  up_to_alike (inr gap) = inr (same (at + length bytes) ∙ gap)

-- as one equation
pub alike : (f g : ℕ → Option ℕ) → ((at : ℕ) → g at ≡ f at) → g ≡ f
alike f g same i at = same at i
