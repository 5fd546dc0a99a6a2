-- What the rows of the first commits say of the next one.
use Rattle.std.proofs.Common.{◌≡◌, ◌⊎◌, inl, inr, ℕ, zero, suc, ◌+◌, ◌-◌, ◌<◌, ◌≤◌, List, [], ◌∷◌, ◌++◌, length, length-append, refl, sym, ap, subst, ◌∙◌, Bool, true, false, cond, arith}
use Rattle.std.specs.Prelude.{◌||◌, ◌&&◌, ◌==◌, Contains, filter, nat_le, slice_index_or}
use Rattle.std.specs.List.{list_any, range_with_len}
use Rattle.std.proofs.lemmas.Bool.Decides.{nat_tests}
use Rattle.std.proofs.Math.ListN.{get_or-append}
use Rattle.std.proofs.Math.Seq.{get_or-append_seam}
use Rattle.ip_spec.specs.Repository.{Repository}
use Rattle.ip_spec.specs.History.{parents_at, Ancestor, itself, of_parent, ParentsFirst, is_ancestor, retained}
use Rattle.ip_spec.proofs.HistoryLaws.{ancestor_test, test_ancestor}
use Rattle.ip_history.specs.History.{History, Holds, Shows}
use Rattle.ip_history.proofs.Lists.{no_true, same_test, same_number, number_same, any_at, at_any}
use Rattle.ip_history.proofs.Parents.{parent_in, parent_out}
use Rattle.ip_model.specs.Ancestry.{reached, reached_from, AreRows}

or_cases : (b c : Bool) → (b || c) ≡ true → (b ≡ true) ⊎ (c ≡ true)
or_cases true c h = inl refl
or_cases false c h = inr h

first_true : (b c : Bool) → b ≡ true → (b || c) ≡ true
first_true true c h = refl
first_true false c h = absurd (no_true false refl h)

second_true : (b c : Bool) → c ≡ true → (b || c) ≡ true
second_true true c h = refl
second_true false c h = h

module _ (r : Repository) (first : ParentsFirst r) (a : ℕ) where
  abbrev test : ℕ → Bool
  test p = is_ancestor r a p

  down : {n : ℕ} → Ancestor r a n → (a == n || list_any test (parents_at r n)) ≡ true
  down itself = first_true (a == a) (list_any test (parents_at r a)) (number_same a a refl)
  down (of_parent {n = n} p at h) = second_true (a == n) (list_any test (parents_at r n)) (any_at test (parents_at r n) p at (test_ancestor r first a p h))

  up : (n : ℕ) → ((a == n) ≡ true) ⊎ (list_any test (parents_at r n) ≡ true) → is_ancestor r a n ≡ true
  up n (inl e) = test_ancestor r first a n (subst (Ancestor r a) (same_number a n e) itself)
  up n (inr t) = let found = at_any test (parents_at r n) t in test_ancestor r first a n (of_parent found.0 found.1 (ancestor_test r first a found.0 found.2))

  -- the commit itself, or an ancestor of a parent
  step_test : (n : ℕ) → is_ancestor r a n ≡ (a == n || list_any test (parents_at r n))
  step_test n = same_test (is_ancestor r a n) (a == n || list_any test (parents_at r n)) (λ t. down (ancestor_test r first a n t)) (λ t. up n (or_cases (a == n) (list_any test (parents_at r n)) t))

-- a test of those that pass another
any_filtered : (p test : ℕ → Bool) (ns : List ℕ) → list_any test (filter p ns) ≡ list_any (λ n. p n && test n) ns
any_filtered p test [] = refl
any_filtered p test (n ∷ ns) = by (p n) (any_filtered p test ns)
  where
    by : (b : Bool) → list_any test (filter p ns) ≡ list_any (λ m. p m && test m) ns → list_any test (cond b (n ∷ filter p ns) (filter p ns)) ≡ ((b && test n) || list_any (λ m. p m && test m) ns)
    by true ih = ap (λ t. test n || t) ih
    by false ih = ih

-- tests that agree on a list
any_same : (p q : ℕ → Bool) (ns : List ℕ) → ((n : ℕ) → Contains ns n → p n ≡ q n) → list_any p ns ≡ list_any q ns
any_same p q [] same = refl
any_same p q (n ∷ ns) same =
    let e : p n ≡ q n = same n (0, omega arith, refl) in
    let rest = any_same p q ns (λ m c. same m (suc c.0, omega (arith, c.1), c.2)) in
    ap (λ t. t || list_any p ns) e ∙ ap (λ t. q n || t) rest

same_places : (floor j k : ℕ) → (j == k) ≡ (floor + j == floor + k)
same_places floor j k = grind arith

module _ (h : History) (r : Repository) (first : ParentsFirst r) (shows : Shows h r) where
  -- the ancestors of what isn't retained are it alone, and all others are retained
  within : (a : ℕ) {n : ℕ} → Ancestor r a n → (a ≡ n) ⊎ (Holds h a × Holds h n)
  within a itself = inl refl
  within a (of_parent {n = n} p at low) = by (within a low)
    where
      child : Holds h n
      child = let (k, is, less, _, _) = parent_out h r shows n p at in (omega (arith, is), omega (arith, is, less))

      parent : Holds h p
      parent = let (k, is, less, _, least) = parent_out h r shows n p at in let below = first n p at in (least, omega (arith, is, less, below))

      by : (a ≡ p) ⊎ (Holds h a × Holds h p) → (a ≡ n) ⊎ (Holds h a × Holds h n)
      by (inl e) = inr (subst (Holds h) (sym e) parent, child)
      by (inr w) = inr (w.0, child)

  ancestor_test_at : (a n : ℕ) → is_ancestor r a n ≡ true → Ancestor r a n
  ancestor_test_at = ancestor_test r first

  -- what the rows say of two retained commits, and that there is no more to say
  pub same_commit : (a n : ℕ) → a ≡ n → is_ancestor r a n ≡ true
  same_commit a n e = test_ancestor r first a n (subst (Ancestor r a) e itself)

  pub by_rows : (rows : List (List Bool)) → AreRows h rows → length rows ≡ length h.parents → (a n : ℕ) → Holds h a → Holds h n → reached rows (n - h.floor) (a - h.floor) ≡ is_ancestor r a n
  by_rows rows are count a n held child =
      let low = held.0 in
      let high = held.1 in
      let least = child.0 in
      let most = child.1 in
      let at : h.floor + (a - h.floor) ≡ a = omega (arith, low) in
      let of : h.floor + (n - h.floor) ≡ n = omega (arith, least) in
      are r first shows (n - h.floor) (a - h.floor) (omega (arith, least, most, count)) (omega (arith, low, high)) ∙ (ap (λ m. is_ancestor r m (h.floor + (n - h.floor))) at ∙ ap (is_ancestor r a) of)

  pub not_both : (a n : ℕ) → (a == n) ≡ false → (Holds h a → Holds h n → ⊥) → false ≡ is_ancestor r a n
  not_both a n ne out = by (is_ancestor r a n) (λ t. within a (ancestor_test_at a n t))
    where
      by : (b : Bool) → (b ≡ true → (a ≡ n) ⊎ (Holds h a × Holds h n)) → false ≡ b
      by false f = refl
      by true f = pick (f refl)
        where
          pick : (a ≡ n) ⊎ (Holds h a × Holds h n) → false ≡ true
          pick (inl e) = absurd (no_true (a == n) ne (number_same a n e))
          pick (inr w) = absurd (out w.0 w.1)

  -- the next row
  module _ (rows : List (List Bool)) (are : AreRows h rows) (less : length rows < length h.parents) (j : ℕ) (low : j < length h.parents) where
    abbrev ps : List ℕ
    ps = slice_index_or h.parents (length rows) []

    abbrev above : ℕ → Bool
    above p = is_ancestor r (h.floor + j) p

    each : (p : ℕ) → Contains ps p → (nat_le h.floor p && reached rows (p - h.floor) j) ≡ (nat_le h.floor p && above p)
    each p c = by (nat_le h.floor p) refl
      where
        by : (b : Bool) → nat_le h.floor p ≡ b → (b && reached rows (p - h.floor) j) ≡ (b && above p)
        by false e = refl
        by true e =
            let least : h.floor ≤ p = grind (arith, nat_tests) in
            let below = first (h.floor + length rows) p (parent_in h r shows (length rows) p c least) in
            let of : h.floor + (p - h.floor) ≡ p = omega (arith, least) in
            are r first shows (p - h.floor) j (omega (arith, least, below)) low ∙ ap above of

    by_parents : reached_from rows h.floor ps j ≡ list_any above (parents_at r (h.floor + length rows))
    by_parents = any_same (λ p. nat_le h.floor p && reached rows (p - h.floor) j) (λ p. nat_le h.floor p && above p) ps each ∙ (sym (any_filtered (λ p. nat_le h.floor p) above ps) ∙ ap (list_any above) (shows.parents (length rows) less))

    next_same : (j == length rows || reached_from rows h.floor ps j) ≡ is_ancestor r (h.floor + j) (h.floor + length rows)
    next_same =
        let e : (j == length rows) ≡ (h.floor + j == h.floor + length rows) = same_places h.floor j (length rows) in
        ap (λ t. t || reached_from rows h.floor ps j) e ∙ (ap (λ t. h.floor + j == h.floor + length rows || t) by_parents ∙ sym (step_test r first (h.floor + j) (h.floor + length rows)))

pub rows_none : (h : History) → AreRows h []
rows_none h r first shows k j low = absurd (omega (arith, low))

pub rows_next : (h : History) (rows : List (List Bool)) (row : List Bool) (ps : List ℕ) → AreRows h rows → length rows < length h.parents → ps ≡ slice_index_or h.parents (length rows) [] → ((j : ℕ) → j < length h.parents → slice_index_or row j false ≡ (j == length rows || reached_from rows h.floor ps j)) → AreRows h (rows ++ row ∷ [])
rows_next h rows row ps are less is next r first shows k j low within = by (place k low)
  where
    place : (k : ℕ) → k < length (rows ++ row ∷ []) → (k < length rows) ⊎ (k ≡ length rows)
    place k low = let e = length-append rows (row ∷ []) in grind (arith, e, low)

    by : (k < length rows) ⊎ (k ≡ length rows) → reached (rows ++ row ∷ []) k j ≡ is_ancestor r (h.floor + j) (h.floor + k)
    by (inl low) = ap (λ row. slice_index_or row j false) (get_or-append rows (row ∷ []) [] k low) ∙ are r first shows k j low within
    by (inr e) =
        let at : slice_index_or (rows ++ row ∷ []) k [] ≡ row = ap (λ m. slice_index_or (rows ++ row ∷ []) m []) e ∙ get_or-append_seam rows row [] [] in
        ap (λ row. slice_index_or row j false) at ∙ (next j within ∙ (ap (λ qs. j == length rows || reached_from rows h.floor qs j) is ∙ (next_same h r first shows rows are less j within ∙ ap (λ m. is_ancestor r (h.floor + j) (h.floor + m)) (sym e))))

-- one number more that may pass
pub filter_more : (p : ℕ → Bool) (a n : ℕ) → filter p (range_with_len a (n + 1)) ≡ filter p (range_with_len a n) ++ cond (p (a + n)) ((a + n) ∷ []) []
filter_more p a zero = let e : a + zero ≡ a = omega arith in rw e refl
filter_more p a (suc n) =
    let e : a + 1 + n ≡ a + suc n = omega arith in
    let m : suc n + 1 ≡ suc (n + 1) = omega arith in
    ap (λ k. filter p (range_with_len a k)) m ∙ by (p a) (subst (λ k. filter p (range_with_len (a + 1) (n + 1)) ≡ filter p (range_with_len (a + 1) n) ++ cond (p k) (k ∷ []) []) e (filter_more p (a + 1) n))
  where
    by : (b : Bool) → filter p (range_with_len (a + 1) (n + 1)) ≡ filter p (range_with_len (a + 1) n) ++ cond (p (a + suc n)) ((a + suc n) ∷ []) [] → cond b (a ∷ filter p (range_with_len (a + 1) (n + 1))) (filter p (range_with_len (a + 1) (n + 1))) ≡ cond b (a ∷ filter p (range_with_len (a + 1) n)) (filter p (range_with_len (a + 1) n)) ++ cond (p (a + suc n)) ((a + suc n) ∷ []) []
    by true ih = ap (λ ns. a ∷ ns) ih
    by false ih = ih

pub found_more : (p : ℕ → Bool) (a n : ℕ) (found : List ℕ) (number : ℕ) (is : Bool) → number ≡ a + n → is ≡ p number → found ≡ filter p (range_with_len a n) → (new : List ℕ) → new ≡ found ++ cond is (number ∷ []) [] → new ≡ filter p (range_with_len a (n + 1))
found_more p a n found number is e test old new more =
    more ∙ (ap (λ ns. ns ++ cond is (number ∷ []) []) old ∙ (ap (λ b. filter p (range_with_len a n) ++ cond b (number ∷ []) []) test ∙ (ap (λ m. filter p (range_with_len a n) ++ cond (p m) (m ∷ []) []) e ∙ sym (filter_more p a n))))

pub found_all : (h : History) (r : Repository) → Shows h r → (p : ℕ → Bool) (n : ℕ) (found : List ℕ) → n ≡ length h.parents → found ≡ filter p (range_with_len h.floor n) → found ≡ filter p (retained r)
found_all h r shows p n found all is = is ∙ (ap (λ m. filter p (range_with_len h.floor m)) (all ∙ shows.count) ∙ ap (λ f. filter p (range_with_len f (length r.commits))) shows.floor)
