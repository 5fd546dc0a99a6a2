-- The parents of a shown repository, and its ancestors.
use Rattle.std.proofs.Common.{◌≡◌, ◌⊎◌, inl, inr, ℕ, zero, suc, ◌+◌, ◌-◌, ◌<◌, ◌≤◌, List, [], ◌∷◌, ◌++◌, length, drop, length-append, refl, sym, subst, ◌∙◌, true, false, arith}
use Rattle.std.specs.Prelude.{All, Contains, slice_index_or, nat_le, nat_lt, slice_get, None}
use Rattle.std.proofs.lemmas.Bool.Decides.{nat_tests}
use Rattle.std.proofs.lemmas.List.{get_or-drop}
use Rattle.std.proofs.lemmas.List.Elements.{All-contains}
use Rattle.std.proofs.Math.ListN.{get_or-append}
use Rattle.std.proofs.Math.Seq.{get_or-append_seam}
use Rattle.std.proofs.lemmas.Bool.{cases_Bool}
use Rattle.ip_spec.specs.Repository.{Repository, commit_at}
use Rattle.ip_spec.specs.History.{parents_at, Ancestor, itself, of_parent, ParentsFirst}
use Rattle.ip_history.specs.History.{History, HasParentsFirst, Shows}
use Rattle.ip_history.proofs.Lists.{none, filtered, of_filtered}

-- the ancestors of an ancestor
pub through : (r : Repository) (a m : ℕ) {n : ℕ} → Ancestor r a m → Ancestor r m n → Ancestor r a n
through r a m low itself = low
through r a m low (of_parent p at high) = of_parent p at (through r a m low high)

-- a parent of an ancestor
pub parent_through : (r : Repository) (a m n : ℕ) → Contains (parents_at r m) a → Ancestor r m n → Ancestor r a n
parent_through r a m n at high = through r a m (of_parent a at itself) high

-- an ancestor is the commit itself, or a parent of an ancestor
pub last_step : (r : Repository) (a : ℕ) {n : ℕ} → Ancestor r a n → (a ≡ n) ⊎ ((m : ℕ) × Contains (parents_at r m) a × Ancestor r m n)
last_step r a itself = inl refl
last_step r a (of_parent {n = n} p at low) = by (last_step r a low)
  where
    by : (a ≡ p) ⊎ ((m : ℕ) × Contains (parents_at r m) a × Ancestor r m p) → (a ≡ n) ⊎ ((m : ℕ) × Contains (parents_at r m) a × Ancestor r m n)
    by (inl e) = inr (n, subst (Contains (parents_at r n)) (sym e) at, itself)
    by (inr (m, c, up)) = inr (m, c, of_parent p at up)

-- an ancestor's number is not greater
pub not_greater : (r : Repository) → ParentsFirst r → (a : ℕ) {n : ℕ} → Ancestor r a n → a ≤ n
not_greater r first a itself = omega arith
not_greater r first a (of_parent {n = n} p c up) =
    let low = first n p c in
    let rest = not_greater r first a up in
    omega (arith, low, rest)

le_test : (m n : ℕ) → m ≤ n → nat_le m n ≡ true
le_test m n low = grind (arith, nat_tests)

le_fact : (m n : ℕ) → nat_le m n ≡ true → m ≤ n
le_fact m n low = grind (arith, nat_tests)

gt_fact : (m n : ℕ) → nat_le m n ≡ false → n < m
gt_fact m n low = grind (arith, nat_tests)

beyond : {A : Type 0} (xs : List A) (k : ℕ) → length xs ≤ k → slice_get xs k ≡ None
beyond [] k high = refl
beyond (x ∷ xs) zero high = absurd (omega (arith, high))
beyond (x ∷ xs) (suc k) high = beyond xs k (omega (arith, high))

within_list : (xss : List (List ℕ)) (k p : ℕ) → Contains (slice_index_or xss k []) p → k < length xss
within_list [] k p c = none p c
within_list (xs ∷ xss) zero p c = omega arith
within_list (xs ∷ xss) (suc k) p c = let low = within_list xss k p c in omega (arith, low)

-- parents are those of a retained commit
retained_parents : (r : Repository) (n p : ℕ) → Contains (parents_at r n) p → (r.floor ≤ n) × (n < r.floor + length r.commits)
retained_parents r n p c = by (cases_Bool (nat_le r.floor n)) (cases_Bool (nat_lt (n - r.floor) (length r.commits)))
  where
    by : (nat_le r.floor n ≡ true) ⊎ (nat_le r.floor n ≡ false) → (nat_lt (n - r.floor) (length r.commits) ≡ true) ⊎ (nat_lt (n - r.floor) (length r.commits) ≡ false) → (r.floor ≤ n) × (n < r.floor + length r.commits)
    by (inl low) (inl high) = (le_fact r.floor n low, grind (arith, nat_tests))
    by (inl low) (inr high) =
        let least = le_fact r.floor n low in
        let past : length r.commits ≤ n - r.floor = grind (arith, nat_tests) in
        let e : commit_at r n ≡ None = rw low (beyond r.commits (n - r.floor) past) in
        none p (rw e at c)
    by (inr low) q =
        let e : commit_at r n ≡ None = rw low refl in
        none p (rw e at c)

module _ (h : History) (r : Repository) (shows : Shows h r) where
  -- what the table has is a parent, where it is not below the floor
  pub parent_in : (k p : ℕ) → Contains (slice_index_or h.parents k []) p → h.floor ≤ p → Contains (parents_at r (h.floor + k)) p
  parent_in k p c low = subst (λ ps. Contains ps p) (shows.parents k (within_list h.parents k p c)) (filtered (λ q. nat_le h.floor q) (slice_index_or h.parents k []) p c (le_test h.floor p low))

  -- and a parent is in the table
  pub parent_out : (n p : ℕ) → Contains (parents_at r n) p → (k : ℕ) × (n ≡ h.floor + k) × (k < length h.parents) × Contains (slice_index_or h.parents k []) p × (h.floor ≤ p)
  parent_out n p c =
      let w = retained_parents r n p c in
      let low = w.0 in
      let high = w.1 in
      let f = shows.floor in
      let count = shows.count in
      let k = n - h.floor in
      let is : n ≡ h.floor + k = omega (arith, low, f) in
      let less : k < length h.parents = omega (arith, low, high, f, count) in
      let at = of_filtered (λ q. nat_le h.floor q) (slice_index_or h.parents k []) p (subst (λ ps. Contains ps p) (sym (shows.parents k less)) (subst (λ m. Contains (parents_at r m) p) is c)) in
      (k, is, less, at.0, le_fact h.floor p at.1)

  pub parents_first : HasParentsFirst h → ParentsFirst r
  parents_first first n p c =
      let out = parent_out n p c in
      let (k, is, less, at, low) = out in
      let up = first k p at in
      omega (arith, is, up)

-- within a list no default is taken
pub no_default : {A : Type 0} (xs : List A) (k : ℕ) (d e : A) → k < length xs → slice_index_or xs k d ≡ slice_index_or xs k e
no_default [] k d e low = absurd (omega (arith, low))
no_default (x ∷ xs) zero d e low = refl
no_default (x ∷ xs) (suc k) d e low = no_default xs k d e (omega (arith, low))

-- a parent that a pass comes to
pub parent_below : (h : History) → HasParentsFirst h → (at i p : ℕ) (ps d : List ℕ) → at < length h.parents → ps ≡ slice_index_or h.parents at d → i < length ps → p ≡ slice_index_or ps i p → p < h.floor + at
parent_below h first at i p ps d low is less e =
    let same : ps ≡ slice_index_or h.parents at [] = is ∙ no_default h.parents at d [] low in
    first at p (subst (λ qs. Contains qs p) same (i, less, sym e))

-- one more list of parents, each below the commit's number
pub first_push : (h : History) → HasParentsFirst h → (ps : List ℕ) → All (λ p. p < h.floor + length h.parents) ps → HasParentsFirst (record { floor = h.floor; parents = h.parents ++ ps ∷ [] })
first_push h first ps below k p c = by (place k (within_list (h.parents ++ ps ∷ []) k p c))
  where
    place : (k : ℕ) → k < length (h.parents ++ ps ∷ []) → (k < length h.parents) ⊎ (k ≡ length h.parents)
    place k low = let e = length-append h.parents (ps ∷ []) in grind (arith, e, low)

    by : (k < length h.parents) ⊎ (k ≡ length h.parents) → p < h.floor + k
    by (inl low) = first k p (subst (λ qs. Contains qs p) (get_or-append h.parents (ps ∷ []) [] k low) c)
    by (inr e) =
        let at : Contains (slice_index_or (h.parents ++ ps ∷ []) (length h.parents) []) p = subst (λ j. Contains (slice_index_or (h.parents ++ ps ∷ []) j []) p) e c in
        let m = All-contains (λ q. q < h.floor + length h.parents) ps p below (subst (λ qs. Contains qs p) (get_or-append_seam h.parents ps [] []) at) in
        omega (arith, e, m)

-- the lists from the n-th on, under a floor raised by n
pub first_drop : (h : History) → HasParentsFirst h → (n floor : ℕ) → floor ≡ h.floor + n → HasParentsFirst (record { floor = floor; parents = drop n h.parents })
first_drop h first n floor e k p c =
    let m = first (n + k) p (subst (λ qs. Contains qs p) (get_or-drop n h.parents k []) c) in
    omega (arith, e, m)
