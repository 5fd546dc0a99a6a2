-- The bits of a digest, and the places that they make.
use Rattle.std.proofs.Common.{◌≡◌, ◌<◌, ℕ, zero, suc, ◌+◌, List, [], ◌∷◌, sym, ap, ◌∙◌, take, drop, length, get_or, ◌≤◌, pow-suc, arith, All, refl}
use Rattle.std.specs.Prelude.{◌-◌, ◌*◌, ◌/◌, ◌%◌, ◌^◌}
use Rattle.std.specs.List.{fold}
use Rattle.std.proofs.lemmas.List.Sums.{fold-append, fold_push}
use Rattle.std.proofs.lemmas.List.{take-append-drop, length-drop}
use Rattle.std.proofs.lemmas.List.Elements.{All-drop}
use Rattle.std.proofs.Math.Seq.{take-suc}
use Rattle.std.proofs.lemmas.Nat.{div-mul-add, pow-add}
use Rattle.std.proofs.Math.Nat.{div-div-eq-div-mul, div-one}
use Rattle.ip_spec.specs.Shape.{number_of}

abbrev more : ℕ → ℕ → ℕ
more n b = n * 256 + b

last_bit : (n b r : ℕ) → r < 8 → (n * 256 + b) / 2 ^ r % 2 ≡ b / 2 ^ r % 2
last_bit n b zero lt = omega arith
last_bit n b (suc zero) lt = omega arith
last_bit n b (suc (suc zero)) lt = omega arith
last_bit n b (suc (suc (suc zero))) lt = omega arith
last_bit n b (suc (suc (suc (suc zero)))) lt = omega arith
last_bit n b (suc (suc (suc (suc (suc zero))))) lt = omega arith
last_bit n b (suc (suc (suc (suc (suc (suc zero)))))) lt = omega arith
last_bit n b (suc (suc (suc (suc (suc (suc (suc zero))))))) lt = omega arith
last_bit n b (suc (suc (suc (suc (suc (suc (suc (suc r)))))))) lt = absurd (omega arith)

-- what bytes behind a number add goes away in a division
eights : (k : ℕ) → 2 ^ (8 * k) ≡ 256 ^ k
eights zero = refl
eights (suc k) =
    let next : 8 * suc k ≡ 8 * k + 8 = omega arith in
    ap (λ e. 2 ^ e) next ∙ pow-add 2 (8 * k) 8 ∙ ap (λ p. p * 256) (eights k) ∙ sym (pow-suc 256 k)

behind : (n : ℕ) (ys : List ℕ) → All (λ b. b < 256) ys → fold more n ys / 256 ^ length ys ≡ n
behind n [] all = div-one n
behind n (y ∷ ys) all =
    ap (λ p. fold more (more n y) ys / p) (pow-suc 256 (length ys))
    ∙ sym (div-div-eq-div-mul (fold more (more n y) ys) (256 ^ length ys) 256)
    ∙ ap (λ q. q / 256) (behind (more n y) ys (λ k d lt. all (suc k) d (omega (arith, lt))))
    ∙ div-mul-add n 256 y (all 0 0 (omega arith))

module _ (bytes : List ℕ) (small : All (λ b. b < 256) bytes) (long : length bytes ≡ 32) where
  front : (m : ℕ) → number_of bytes / 256 ^ length (drop m bytes) ≡ number_of (take m bytes)
  front m =
      ap (λ (l : List ℕ). fold more 0 l / 256 ^ length (drop m bytes)) (sym (take-append-drop m bytes))
      ∙ ap (λ q. q / 256 ^ length (drop m bytes)) (fold-append more 0 (take m bytes) (drop m bytes))
      ∙ behind (fold more 0 (take m bytes)) (drop m bytes) (All-drop (λ b. b < 256) m bytes small)

  cut : (m r : ℕ) → m ≤ 32 → number_of bytes / 2 ^ (8 * (32 - m) + r) ≡ number_of (take m bytes) / 2 ^ r
  cut m r le =
      let behind_it : length (drop m bytes) ≡ 32 - m = length-drop m bytes ∙ ap (λ n. n - m) long in
      ap (λ p. number_of bytes / p) (pow-add 2 (8 * (32 - m)) r ∙ ap (λ p. p * 2 ^ r) (eights (32 - m)))
      ∙ sym (div-div-eq-div-mul (number_of bytes) (256 ^ (32 - m)) (2 ^ r))
      ∙ ap (λ k. number_of bytes / 256 ^ k / 2 ^ r) (sym behind_it)
      ∙ ap (λ n. n / 2 ^ r) (front m)

  in_byte : (j r : ℕ) → j < 32 → r < 8 → get_or bytes j 0 / 2 ^ r % 2 ≡ number_of bytes / 2 ^ (8 * (31 - j) + r) % 2
  in_byte j r lt low =
      let there : j < length bytes = omega (arith, lt, long) in
      let shift : 8 * (31 - j) + r ≡ 8 * (32 - suc j) + r = omega arith in
      sym (ap (λ e. number_of bytes / 2 ^ e % 2) shift ∙ ap (λ n. n % 2) (cut (suc j) r (omega (arith, lt)))
      ∙ ap (λ n. n / 2 ^ r % 2) (ap number_of (take-suc bytes j 0 there) ∙ fold_push more 0 (take j bytes) (get_or bytes j 0))
      ∙ last_bit (number_of (take j bytes)) (get_or bytes j 0) r low)

  pub bit_in : (bit : ℕ) → bit < 256 → get_or bytes (bit / 8) 0 / 2 ^ (7 - bit % 8) % 2 ≡ number_of bytes / 2 ^ (255 - bit) % 2
  bit_in bit lt =
      let place : 8 * (31 - bit / 8) + (7 - bit % 8) ≡ 255 - bit = omega (arith, lt) in
      in_byte (bit / 8) (7 - bit % 8) (omega (arith, lt)) (omega arith) ∙ ap (λ e. number_of bytes / 2 ^ e % 2) place

-- ---- five bits

five : (m : ℕ) → 16 * (m / 16 % 2) + 8 * (m / 8 % 2) + 4 * (m / 4 % 2) + 2 * (m / 2 % 2) + m % 2 ≡ m % 32
five m = omega arith

higher : (n first k : ℕ) → first ≤ 250 → k ≤ 4 → n / 2 ^ (255 - (first + k)) ≡ n / 2 ^ (251 - first) / 2 ^ (4 - k)
higher n first k low le =
    let split : 255 - (first + k) ≡ (251 - first) + (4 - k) = omega (arith, low, le) in
    ap (λ e. n / 2 ^ e) split ∙ ap (λ p. n / p) (pow-add 2 (251 - first) (4 - k)) ∙ sym (div-div-eq-div-mul n (2 ^ (251 - first)) (2 ^ (4 - k)))

pub five_in : (n first a b c d e : ℕ) → first ≤ 250 → a ≡ n / 2 ^ (255 - first) % 2 → b ≡ n / 2 ^ (255 - (first + 1)) % 2 → c ≡ n / 2 ^ (255 - (first + 2)) % 2 → d ≡ n / 2 ^ (255 - (first + 3)) % 2 → e ≡ n / 2 ^ (255 - (first + 4)) % 2
    → 16 * a + 8 * b + 4 * c + 2 * d + e ≡ n / 2 ^ (251 - first) % 32
five_in n first a b c d e low ia ib ic id ie =
    let m : ℕ = n / 2 ^ (251 - first) in
    let none : 255 - first ≡ 255 - (first + 0) = omega arith in
    let fa : a ≡ m / 16 % 2 = ia ∙ ap (λ e. n / 2 ^ e % 2) none ∙ ap (λ q. q % 2) (higher n first 0 low (omega arith)) in
    let fb : b ≡ m / 8 % 2 = ib ∙ ap (λ q. q % 2) (higher n first 1 low (omega arith)) in
    let fc : c ≡ m / 4 % 2 = ic ∙ ap (λ q. q % 2) (higher n first 2 low (omega arith)) in
    let fd : d ≡ m / 2 % 2 = id ∙ ap (λ q. q % 2) (higher n first 3 low (omega arith)) in
    let fe : e ≡ m % 2 = ie ∙ ap (λ q. q % 2) (higher n first 4 low (omega arith) ∙ div-one m) in
    (λ i. 16 * fa i + 8 * fb i + 4 * fc i + 2 * fd i + fe i) ∙ five m
