-- Five bits of a digest stand in at most two of its bytes.
use Rattle.std.proofs.Common.{◌≡◌, ◌<◌, ℕ, zero, suc, ◌+◌, List, [], ◌∷◌, sym, ap, ◌∙◌, take, drop, length, get_or, ◌≤◌, pow-suc, arith, All, refl}
use Rattle.std.specs.Prelude.{◌-◌, ◌*◌, ◌/◌, ◌%◌, ◌^◌}
use Rattle.std.specs.List.{fold}
use Rattle.std.proofs.lemmas.List.Sums.{fold-append, fold_push}
use Rattle.std.proofs.lemmas.List.{take-append-drop, length-drop}
use Rattle.std.proofs.lemmas.List.Elements.{All-drop}
use Rattle.std.proofs.Math.Seq.{take-suc}
use Rattle.std.proofs.lemmas.Nat.{div-mul-add, pow-add}
use Rattle.std.proofs.Math.Nat.{div-div-eq-div-mul, div-one}
use Rattle.ip_spec.specs.Shape.{number_of}
use Rattle.ip_shape.specs.Place.{place_in}

abbrev more : ℕ → ℕ → ℕ
more n b = n * 256 + b

last_bits : (n h l r : ℕ) → r < 8 → ((n * 256 + h) * 256 + l) / 2 ^ r % 32 ≡ (h * 256 + l) / 2 ^ r % 32
last_bits n h l zero lt = omega arith
last_bits n h l (suc zero) lt = omega arith
last_bits n h l (suc (suc zero)) lt = omega arith
last_bits n h l (suc (suc (suc zero))) lt = omega arith
last_bits n h l (suc (suc (suc (suc zero)))) lt = omega arith
last_bits n h l (suc (suc (suc (suc (suc zero))))) lt = omega arith
last_bits n h l (suc (suc (suc (suc (suc (suc zero)))))) lt = omega arith
last_bits n h l (suc (suc (suc (suc (suc (suc (suc zero))))))) lt = omega arith
last_bits n h l (suc (suc (suc (suc (suc (suc (suc (suc r)))))))) lt = absurd (omega arith)

-- what bytes behind a number add goes away in a division
eights : (k : ℕ) → 2 ^ (8 * k) ≡ 256 ^ k
eights zero = refl
eights (suc k) =
    let next : 8 * suc k ≡ 8 * k + 8 = omega arith in
    ap (λ e. 2 ^ e) next ∙ pow-add 2 (8 * k) 8 ∙ ap (λ p. p * 256) (eights k) ∙ sym (pow-suc 256 k)

behind : (n : ℕ) (ys : List ℕ) → All (λ b. b < 256) ys → fold more n ys / 256 ^ length ys ≡ n
behind n [] all = div-one n
behind n (y ∷ ys) all = ap (λ p. fold more (more n y) ys / p) (pow-suc 256 (length ys)) ∙ sym (div-div-eq-div-mul (fold more (more n y) ys) (256 ^ length ys) 256) ∙ ap (λ q. q / 256) (behind (more n y) ys (λ k d lt. all (suc k) d (omega (arith, lt)))) ∙ div-mul-add n 256 y (all 0 0 (omega arith))

module _ (bytes : List ℕ) (small : All (λ b. b < 256) bytes) where
  front : (m : ℕ) → number_of bytes / 256 ^ length (drop m bytes) ≡ number_of (take m bytes)
  front m =
      ap (λ (l : List ℕ). fold more 0 l / 256 ^ length (drop m bytes)) (sym (take-append-drop m bytes))
      ∙ ap (λ q. q / 256 ^ length (drop m bytes)) (fold-append more 0 (take m bytes) (drop m bytes))
      ∙ behind (fold more 0 (take m bytes)) (drop m bytes) (All-drop (λ b. b < 256) m bytes small)

  one_more : (j : ℕ) → j < length bytes → number_of (take (suc j) bytes) ≡ number_of (take j bytes) * 256 + get_or bytes j 0
  one_more j lt = ap number_of (take-suc bytes j 0 lt) ∙ fold_push more 0 (take j bytes) (get_or bytes j 0)

  cut : (m r depth : ℕ) → length bytes ≡ 32 → 8 * m ≡ 5 * depth + 5 + r → m ≤ 32 → place_in bytes depth ≡ number_of (take m bytes) / 2 ^ r % 32
  cut m r depth long is le =
      let behind_it : length (drop m bytes) ≡ 32 - m = length-drop m bytes ∙ ap (λ n. n - m) long in
      let shift : 251 - 5 * depth ≡ 8 * (32 - m) + r = omega arith in
      ap (λ e. number_of bytes / 2 ^ e % 32) shift ∙ ap (λ p. number_of bytes / p % 32) (pow-add 2 (8 * (32 - m)) r ∙ ap (λ p. p * 2 ^ r) (eights (32 - m)))
      ∙ ap (λ q. q % 32) (sym (div-div-eq-div-mul (number_of bytes) (256 ^ (32 - m)) (2 ^ r)))
      ∙ ap (λ k. number_of bytes / 256 ^ k / 2 ^ r % 32) (sym behind_it)
      ∙ ap (λ n. n / 2 ^ r % 32) (front m)

  zero_first : (b : ℕ) → 0 * 256 + b ≡ b
  zero_first b = omega arith

  pub in_one : (r depth : ℕ) → length bytes ≡ 32 → 8 ≡ 5 * depth + 5 + r → get_or bytes 0 0 / 2 ^ r % 32 ≡ place_in bytes depth
  in_one r depth long is = sym (cut 1 r depth long is (omega arith) ∙ ap (λ n. n / 2 ^ r % 32) (one_more 0 (omega arith) ∙ zero_first (get_or bytes 0 0)))

  pub in_two : (j r depth : ℕ) → length bytes ≡ 32 → 8 * (j + 2) ≡ 5 * depth + 5 + r → j + 2 ≤ 32 → r < 8
      → (get_or bytes j 0 * 256 + get_or bytes (j + 1) 0) / 2 ^ r % 32 ≡ place_in bytes depth
  in_two j r depth long is le lt =
      let two : number_of (take (suc (suc j)) bytes) ≡ (number_of (take j bytes) * 256 + get_or bytes j 0) * 256 + get_or bytes (suc j) 0 =
      one_more (suc j) (omega arith) ∙ ap (λ n. n * 256 + get_or bytes (suc j) 0) (one_more j (omega arith)) in
      let next : suc j ≡ j + 1 = omega arith in
      let end : suc (suc j) ≡ j + 2 = omega arith in
      sym (cut (j + 2) r depth long is le ∙ ap (λ m. number_of (take m bytes) / 2 ^ r % 32) (sym end) ∙ ap (λ n. n / 2 ^ r % 32) two
      ∙ last_bits (number_of (take j bytes)) (get_or bytes j 0) (get_or bytes (suc j) 0) r lt ∙ ap (λ i. (get_or bytes j 0 * 256 + get_or bytes i 0) / 2 ^ r % 32) next)
