-- The numbers that pass a test, found one by one from the last down.
use Rattle.std.proofs.Common.{◌≡◌, ◌≢◌, ℕ, zero, suc, ◌+◌, ◌-◌, ◌<◌, ◌≤◌, List, [], ◌∷◌, ◌++◌, append-nil, refl, sym, ap, subst, ◌∙◌, Bool, true, false, cond, arith}
use Rattle.std.specs.Prelude.{filter, reverse}
use Rattle.std.specs.List.{range_with_len}
use Rattle.std.proofs.lemmas.List.{reverse-append}

module _ (test : ℕ → Bool) where
  -- those that don't pass may be passed over
  pub skip : (b d m : ℕ) → ((k : ℕ) → k < d → test (b + k) ≡ false) → filter test (range_with_len b (d + m)) ≡ filter test (range_with_len (b + d) m)
  skip b zero m none =
      let e : b ≡ b + 0 = omega arith in
      let z : 0 + m ≡ m = omega arith in
      ap (λ n. filter test (range_with_len b n)) z ∙ ap (λ c. filter test (range_with_len c m)) e
  skip b (suc d) m none =
      let out : test b ≡ false = subst (λ c. test c ≡ false) (omega arith) (none 0 (omega arith)) in
      let rest = skip (b + 1) d m (λ k low. subst (λ c. test c ≡ false) (omega arith) (none (suc k) (omega (arith, low)))) in
      let e : b + 1 + d ≡ b + suc d = omega arith in
      let size : suc d + m ≡ suc (d + m) = omega arith in
      ap (λ n. filter test (range_with_len b n)) size ∙ (ap (λ t. cond t (b ∷ filter test (range_with_len (b + 1) (d + m))) (filter test (range_with_len (b + 1) (d + m)))) out ∙ (rest ∙ ap (λ c. filter test (range_with_len c m)) e))

  -- one number alone passes
  pub one_found : (b m n : ℕ) → b ≤ n → n < b + m → test n ≡ true → ((k : ℕ) → k ≢ n → test k ≡ false) → filter test (range_with_len b m) ≡ n ∷ []
  one_found b m n low high is others =
      let rest = b + m - (n + 1) in
      let size : m ≡ (n - b) + suc rest = omega (arith, low, high) in
      let start : b + (n - b) ≡ n = omega (arith, low) in
      let above = skip (n + 1) rest 0 (λ k less. others (n + 1 + k) (omega arith)) in
      let all : rest ≡ rest + 0 = omega arith in
      let none : filter test (range_with_len (n + 1) rest) ≡ [] = ap (λ k. filter test (range_with_len (n + 1) k)) all ∙ above in
      ap (λ k. filter test (range_with_len b k)) size ∙ (skip b (n - b) (suc rest) (λ k less. others (b + k) (omega (arith, less, low)))
      ∙ (ap (λ c. filter test (range_with_len c (suc rest))) start ∙ (ap (λ t. cond t (n ∷ filter test (range_with_len (n + 1) rest)) (filter test (range_with_len (n + 1) rest))) is
      ∙ ap (λ xs. n ∷ xs) none)))

  module _ (last : ℕ) where
    -- what passes from b on, before the last
    abbrev pub from : ℕ → List ℕ
    from b = filter test (range_with_len b (last - b))

    pub skipped : (a b : ℕ) → a ≤ b → b ≤ last → ((k : ℕ) → a ≤ k → k < b → test k ≡ false) → from a ≡ from b
    skipped a b low high none =
        let d : last - a ≡ (b - a) + (last - b) = omega (arith, low, high) in
        let e : a + (b - a) ≡ b = omega (arith, low) in
        ap (λ m. filter test (range_with_len a m)) d ∙ (skip a (b - a) (last - b) (λ k less. none (a + k) (omega arith) (omega (arith, less, low))) ∙ ap (λ c. filter test (range_with_len c (last - b))) e)

    pub none_found : [] ≡ reverse (from last)
    none_found = let e : last - last ≡ 0 = omega arith in rw e refl

    from_next : (n : ℕ) → n < last → from n ≡ cond (test n) (n ∷ from (n + 1)) (from (n + 1))
    from_next n low =
        let e : last - n ≡ suc (last - (n + 1)) = omega (arith, low) in
        ap (λ m. filter test (range_with_len n m)) e

    reversed : (b : Bool) (n : ℕ) (xs : List ℕ) → reverse (cond b (n ∷ xs) xs) ≡ reverse xs ++ cond b (n ∷ []) []
    reversed true n xs = reverse-append (n ∷ []) xs
    reversed false n xs = sym (append-nil (reverse xs))

    -- one more
    pub found_more : (numbers : List ℕ) (b n : ℕ) → n < b → b ≤ last → ((k : ℕ) → n < k → k < b → test k ≡ false) → numbers ≡ reverse (from b) → numbers ++ cond (test n) (n ∷ []) [] ≡ reverse (from n)
    found_more numbers b n low high none is =
        let rest : from (n + 1) ≡ from b = skipped (n + 1) b (omega (arith, low)) high (λ k least less. none k (omega (arith, least)) less) in
        let numbers_are : numbers ≡ reverse (from (n + 1)) = is ∙ ap reverse (sym rest) in
        ap (λ xs. xs ++ cond (test n) (n ∷ []) []) numbers_are ∙ sym (ap reverse (from_next n (omega (arith, low, high))) ∙ reversed (test n) n (from (n + 1)))

    -- with nothing left below
    pub found_all : (floor b : ℕ) → floor ≤ b → b ≤ last → ((k : ℕ) → k < b → test k ≡ false) → from b ≡ from floor
    found_all floor b low high none = sym (skipped floor b low high (λ k _ less. none k less))
