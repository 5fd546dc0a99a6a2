-- The length of a body, put where zeros stood before it.
use Rattle.std.proofs.Common.{◌≡◌, ℕ, zero, suc, ◌+◌, ◌-◌, List, [], ◌∷◌, ◌++◌, sym, ap, ◌∙◌, length, take, drop, arith, append_assoc, append-nil}
use Rattle.std.proofs.lemmas.List.{take_at, drop_at, take_all, drop_all, length-append}
use borrow.Rule.Slice.PartMut.{put_mid}

abbrev pub zeros : List ℕ
zeros = 0 ∷ 0 ∷ 0 ∷ 0 ∷ []

drops : (m n : ℕ) (xs : List ℕ) → drop n (drop m xs) ≡ drop (m + n) xs
drops zero n xs = let e : n ≡ 0 + n = omega arith in ap (λ k. drop k xs) e
drops (suc m) n [] = drop_all n [] (omega arith) ∙ sym (drop_all (suc m + n) [] (omega arith))
drops (suc m) n (x ∷ xs) = let e : suc (m + n) ≡ suc m + n = omega arith in drops m n xs ∙ ap (λ k. drop k (x ∷ xs)) e

module _ (old b four xs : List ℕ) (k s n : ℕ) (start : s ≡ length old) (size : length four ≡ 4) (is : xs ≡ old ++ (k ∷ zeros) ++ b) (all : n ≡ length xs) where
  abbrev whole : List ℕ
  whole = old ++ (k ∷ (four ++ b))

  abbrev patch : ℕ → List ℕ
  patch m = put_mid (s + 1) m xs four

  four_long : (s + 5) - (s + 1) ≡ 4
  four_long = omega arith

  front : take (s + 1) xs ≡ old ++ k ∷ []
  front =
      let e : xs ≡ (old ++ k ∷ []) ++ (zeros ++ b) = is ∙ ap (λ t. t ++ b) (sym (append_assoc old (k ∷ []) zeros)) ∙ append_assoc (old ++ k ∷ []) zeros b in
      ap (take (s + 1)) e ∙ take_at (old ++ k ∷ []) (zeros ++ b) (s + 1) (let l = length-append old (k ∷ []) in omega (arith, l, start))

  back : drop ((s + 1) + 4) xs ≡ b
  back = ap (drop ((s + 1) + 4)) is ∙ drop_at (old ++ k ∷ zeros) b ((s + 1) + 4) (let l = length-append old (k ∷ zeros) in omega (arith, l, start))

  behind : drop 4 (drop (s + 1) xs) ≡ b
  behind = drops (s + 1) 4 xs ∙ back

  patch_is : patch 4 ≡ whole
  patch_is = (λ i. front i ++ (four ++ behind i)) ∙ append_assoc old (k ∷ []) (four ++ b)

  whole_long : length whole ≡ length xs
  whole_long =
      let l = length-append old (k ∷ (four ++ b)) in
      let m = length-append four b in
      let h = length-append (old ++ k ∷ zeros) b in
      let g = length-append old (k ∷ zeros) in
      let e = ap length is in
      omega (arith, l, m, h, g, e, size)

  pub patched : take n (put_mid (s + 1) ((s + 5) - (s + 1)) xs four ++ drop (length (put_mid (s + 1) ((s + 5) - (s + 1)) xs four)) xs) ≡ whole
  patched =
      ap (λ m. take n (patch m ++ drop (length (patch m)) xs)) four_long
      ∙ ap (λ t. take n (t ++ drop (length t) xs)) patch_is
      ∙ ap (λ t. take n (whole ++ t)) (drop_all (length whole) xs (omega (arith, whole_long)))
      ∙ ap (take n) (append-nil whole)
      ∙ take_all n whole (omega (arith, whole_long, all))

  -- also where the list is known by another name
  pub patched_as : (ys : List ℕ) → ys ≡ xs → take n (put_mid (s + 1) ((s + 5) - (s + 1)) xs four ++ drop (length (put_mid (s + 1) ((s + 5) - (s + 1)) xs four)) ys) ≡ whole
  patched_as ys e = ap (λ t. take n (put_mid (s + 1) ((s + 5) - (s + 1)) xs four ++ drop (length (put_mid (s + 1) ((s + 5) - (s + 1)) xs four)) t)) e ∙ patched
