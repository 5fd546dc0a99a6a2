-- How many bytes from the front on are alike.
--     common_behind      those behind a front that is alike.      common_taken      of two fronts.      common_front      so many are alike
--     taken_least      a front of as many as there are.      one_more      at one more index
use Rattle.std.proofs.Common.{◌≡◌, ℕ, zero, suc, ◌+◌, ◌<◌, ◌≤◌, [], ◌∷◌, length, take, drop, get_or, refl, sym, ap, ◌∙◌, arith, Bool, true, false}
use Rattle.std.specs.Prelude.{min, ◌==◌, if◌then◌else◌}
use Rattle.std.proofs.lemmas.Bool.{eqb-true, eq-eqb}
use Rattle.ip_spec.specs.Path.{Bytes}
use Rattle.ip_image.specs.Collection.{common_length}
use Rattle.ip_check.specs.Alike.{IsAlike}

abbrev longer : Bool → ℕ → ℕ
longer b n = if b then suc n else 0

pub common_behind : (want got : Bytes) (n : ℕ) → n ≤ length want → n ≤ length got → take n got ≡ take n want → common_length want got ≡ n + common_length (drop n want) (drop n got)
common_behind want got zero l m e = omega arith
common_behind [] got (suc n) l m e = absurd (omega (arith, l))
common_behind (x ∷ want) [] (suc n) l m e = absurd (omega (arith, m))
common_behind (x ∷ want) (y ∷ got) (suc n) l m e =
    let heads : y ≡ x = cc (e) in
    let tails : take n got ≡ take n want = cc (e) in
    let deep = common_behind want got n (omega (arith, l)) (omega (arith, m)) tails in
    let first : common_length (x ∷ want) (y ∷ got) ≡ suc (common_length want got) = ap (λ (b : Bool). longer b (common_length want got)) (eq-eqb x y (sym heads)) in
    omega (arith, first, deep)

shorter : (b : Bool) (k m n : ℕ) → m ≡ min k n → longer b m ≡ min (suc k) (longer b n)
shorter true k m n e = omega (arith, e)
shorter false k m n e = omega arith

pub common_taken : (k : ℕ) (want got : Bytes) → common_length (take k want) (take k got) ≡ min k (common_length want got)
common_taken zero want got = omega arith
common_taken (suc k) [] got = omega arith
common_taken (suc k) (x ∷ want) [] = omega arith
common_taken (suc k) (x ∷ want) (y ∷ got) = shorter (x == y) k (common_length (take k want) (take k got)) (common_length want got) (common_taken k want got)

pub common_front : (want got : Bytes) (n : ℕ) → n ≤ common_length want got → IsAlike want got n
common_front want got zero l = record { wanted = omega arith; found = omega arith; same = refl }
common_front [] got (suc n) l = absurd (omega (arith, l))
common_front (x ∷ want) [] (suc n) l = absurd (omega (arith, l))
common_front (x ∷ want) (y ∷ got) (suc n) l = by (x == y) refl l (common_front want got n)
  where
    deeper : x ≡ y → IsAlike want got n → IsAlike (x ∷ want) (y ∷ got) (suc n)
    deeper same deep = record {
      wanted = let w = deep.wanted in omega (arith, w);
      found = let f = deep.found in omega (arith, f);
      same = λ i. sym same i ∷ deep.same i;
    }

    by : (b : Bool) → (x == y) ≡ b → suc n ≤ longer b (common_length want got) → (n ≤ common_length want got → IsAlike want got n) → IsAlike (x ∷ want) (y ∷ got) (suc n)
    by true e l deep = deeper (eqb-true x y e) (deep (omega (arith, l)))
    by false e l deep = absurd (omega (arith, l))

pub common_itself : (bytes : Bytes) → common_length bytes bytes ≡ length bytes
common_itself [] = refl
common_itself (x ∷ bytes) = ap (λ (b : Bool). longer b (common_length bytes bytes)) (eq-eqb x x refl) ∙ ap suc (common_itself bytes)

pub taken_least : (k : ℕ) (bytes : Bytes) → take (min k (length bytes)) bytes ≡ take k bytes
taken_least zero bytes = let none : min 0 (length bytes) ≡ 0 = omega arith in ap (λ (n : ℕ). take n bytes) none
taken_least (suc k) [] = let none : min (suc k) (length {A = ℕ} []) ≡ 0 = omega arith in ap (λ (n : ℕ). take {A = ℕ} n []) none
taken_least (suc k) (x ∷ bytes) =
    let one : min (suc k) (length (x ∷ bytes)) ≡ suc (min k (length bytes)) = omega arith in
    ap (λ (n : ℕ). take n (x ∷ bytes)) one ∙ ap (λ (xs : Bytes). x ∷ xs) (taken_least k bytes)

-- a loop's step: where the next is the same too, one more is alike; where it is not, these are all
pub one_more : (want got : Bytes) (n : ℕ) → n ≤ common_length want got → n < length want → n < length got → get_or got n 0 ≡ get_or want n 0 → n + 1 ≤ common_length want got
one_more [] got n l m k e = absurd (omega (arith, m))
one_more (x ∷ want) [] n l m k e = absurd (omega (arith, k))
one_more (x ∷ want) (y ∷ got) zero l m k e =
    let first : common_length (x ∷ want) (y ∷ got) ≡ suc (common_length want got) = ap (λ (b : Bool). longer b (common_length want got)) (eq-eqb x y (sym e)) in
    omega (arith, first)
one_more (x ∷ want) (y ∷ got) (suc n) l m k e = by (x == y) refl l (λ low. one_more want got n low (omega (arith, m)) (omega (arith, k)) e)
  where
    by : (b : Bool) → (x == y) ≡ b → suc n ≤ longer b (common_length want got) → (n ≤ common_length want got → n + 1 ≤ common_length want got) → suc n + 1 ≤ common_length (x ∷ want) (y ∷ got)
    by true is l more =
        let deep = more (omega (arith, l)) in
        let first : common_length (x ∷ want) (y ∷ got) ≡ suc (common_length want got) = ap (λ (b : Bool). longer b (common_length want got)) is in
        omega (arith, first, deep)
    by false is l more = absurd (omega (arith, l))

pub no_more : (want got : Bytes) (n : ℕ) → n ≤ common_length want got → (n < length got → get_or got n 0 ≡ get_or want n 0 → ⊥) → common_length want got ≡ n
no_more [] got n l differs = omega (arith, l)
no_more (x ∷ want) [] n l differs = omega (arith, l)
no_more (x ∷ want) (y ∷ got) zero l differs = by (x == y) refl
  where
    by : (b : Bool) → (x == y) ≡ b → common_length (x ∷ want) (y ∷ got) ≡ 0
    by true e = absurd (differs (omega arith) (sym (eqb-true x y e)))
    by false e = ap (λ (b : Bool). longer b (common_length want got)) e
no_more (x ∷ want) (y ∷ got) (suc n) l differs = by (x == y) refl l (λ low. no_more want got n low (λ k. differs (omega (arith, k))))
  where
    by : (b : Bool) → (x == y) ≡ b → suc n ≤ longer b (common_length want got) → (n ≤ common_length want got → common_length want got ≡ n) → common_length (x ∷ want) (y ∷ got) ≡ suc n
    by true e l more = ap (λ (b : Bool). longer b (common_length want got)) e ∙ ap suc (more (omega (arith, l)))
    by false e l more = absurd (omega (arith, l))

pub common_most : (want got : Bytes) → common_length want got ≤ length want
common_most want got = (common_front want got (common_length want got) (omega arith)).wanted
