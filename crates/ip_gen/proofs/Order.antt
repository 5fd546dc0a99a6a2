-- Records that lie one behind the other: where they end, which are present, and where a search leads.
use Rattle.std.proofs.Common.{◌≡◌, ◌⊎◌, inl, inr, ℕ, zero, suc, ◌+◌, ◌<◌, ◌≤◌, List, [], ◌∷◌, ◌++◌, refl, sym, ap, subst, ◌∙◌, Bool, true, false, cond, arith, length, get_or, add-one}
use Rattle.std.specs.Prelude.{Contains, MatchResult, Result, Ok, Err, filter, fold}
use Rattle.std.specs.Ordering.{is_lt, nat_cmp}
use Rattle.std.specs.declared.cmp.Ordering.{Ordering}
use Rattle.std.specs.declared.cmp.Ordering.TheVariants.{Less, Equal, Greater}
use Rattle.std.specs.List.Sorted.{IsBinarySearchResult, IsPartitionPoint, IsSortedBy}
use Rattle.std.specs.Cmp.{nat_cmp_is}
use Rattle.std.proofs.lemmas.Bool.Decides.{nat_tests}
use Rattle.std.proofs.lemmas.Cmp.{nat_cmp_total}
use Rattle.std.proofs.lemmas.List.Sorted.{searchable_from_sorted}
use Rattle.std.proofs.lemmas.Map.Lookups.{exact_unsigned}
use Rattle.ip_spec.specs.declared.event.CoreRecord.{CoreRecord}
use Rattle.ip_spec.specs.Core.{AreInOrder, CorePhase, FollowOn, IsPresent, end_of}
use Rattle.ip_gen.proofs.Lists.{none, split}

abbrev last : ℕ → CoreRecord → ℕ
last n r = r.at + r.length

ends : (n from : ℕ) (rs : List CoreRecord) → n ≤ from → AreInOrder from rs → n ≤ fold last n rs
ends n from [] l o = omega arith
ends n from (r ∷ rs) l o = let e = ends (r.at + r.length) (r.at + r.length) rs (omega arith) o.2 in omega (arith, l, o.0, e)

inside_from : (n from : ℕ) (rs : List CoreRecord) (r : CoreRecord) → AreInOrder from rs → Contains rs r → r.at < fold last n rs
inside_from n from [] r o c = none r c
inside_from n from (q ∷ rs) r o c = by (split r q rs c) (inside_from (q.at + q.length) (q.at + q.length) rs r o.2)
  where
    by : (q ≡ r) ⊎ Contains rs r → (Contains rs r → r.at < fold last (q.at + q.length) rs) → r.at < fold last (q.at + q.length) rs
    by (inl is) ih = let e = ends (q.at + q.length) (q.at + q.length) rs (omega arith) o.2 in let a : q.at ≡ r.at = ap (λ x. x.at) is in omega (arith, e, o.1, a)
    by (inr h) ih = ih h

-- a present record begins before the end
pub inside : (rs : List CoreRecord) (r : CoreRecord) → AreInOrder 0 rs → Contains rs r → r.at < end_of rs
inside rs r o c = inside_from 0 0 rs r o c

-- none begins before the first of them may
pub from_there : (from : ℕ) (rs : List CoreRecord) (r : CoreRecord) → AreInOrder from rs → Contains rs r → from ≤ r.at
from_there from [] r o c = none r c
from_there from (q ∷ rs) r o c = by (split r q rs c) (from_there (q.at + q.length) rs r o.2)
  where
    by : (q ≡ r) ⊎ Contains rs r → (Contains rs r → q.at + q.length ≤ r.at) → from ≤ r.at
    by (inl is) ih = let a : q.at ≡ r.at = ap (λ x. x.at) is in omega (arith, o.0, a)
    by (inr h) ih = let l = ih h in omega (arith, o.0, l)

-- one record at most lies at an offset
pub same_place : (from : ℕ) (rs : List CoreRecord) (r q : CoreRecord) → AreInOrder from rs → Contains rs r → Contains rs q → r.at ≡ q.at → r ≡ q
same_place from [] r q o c d e = none r c
same_place from (x ∷ rs) r q o c d e = by (split r x rs c) (split q x rs d) (λ a b. same_place (x.at + x.length) rs r q o.2 a b e)
  where
    by : (x ≡ r) ⊎ Contains rs r → (x ≡ q) ⊎ Contains rs q → (Contains rs r → Contains rs q → r ≡ q) → r ≡ q
    by (inl a) (inl b) ih = sym a ∙ b
    by (inl a) (inr b) ih = let l = from_there (x.at + x.length) rs q o.2 b in let f : x.at ≡ r.at = ap (λ y. y.at) a in absurd (omega (arith, l, f, e, o.1))
    by (inr a) (inl b) ih = let l = from_there (x.at + x.length) rs r o.2 a in let f : x.at ≡ q.at = ap (λ y. y.at) b in absurd (omega (arith, l, f, e, o.1))
    by (inr a) (inr b) ih = ih a b

end_push_from : (n : ℕ) (rs : List CoreRecord) (r : CoreRecord) → fold last n (rs ++ r ∷ []) ≡ r.at + r.length
end_push_from n [] r = refl
end_push_from n (q ∷ rs) r = end_push_from (q.at + q.length) rs r

-- one more record ends where all of them end
pub end_push : (rs : List CoreRecord) (r : CoreRecord) → end_of (rs ++ r ∷ []) ≡ r.at + r.length
end_push rs r = end_push_from 0 rs r

-- records behind others begin at their end or above
pub behind : (records : List CoreRecord) (phase : CorePhase) (rs : List CoreRecord) (r : CoreRecord) → FollowOn records phase rs → Contains rs r → end_of records ≤ r.at
behind records phase [] r f c = none r c
behind records phase (q ∷ rs) r f c = by (split r q rs c) (behind (records ++ q ∷ []) phase rs r f.1)
  where
    by : (q ≡ r) ⊎ Contains rs r → (Contains rs r → end_of (records ++ q ∷ []) ≤ r.at) → end_of records ≤ r.at
    by (inl is) ih = let a : q.at ≡ r.at = ap (λ x. x.at) is in let e = f.0.at in omega (arith, a, e)
    by (inr h) ih = let e = end_push records q in let a = f.0.at in let l = ih h in omega (arith, e, a, l)

end_filter_from : (p : CoreRecord → Bool) (m n : ℕ) (rs : List CoreRecord) → m ≤ n → AreInOrder n rs → fold last m (filter p rs) ≤ fold last n rs
end_filter_from p m n [] l o = l
end_filter_from p m n (r ∷ rs) l o =
    by (p r) (end_filter_from p (r.at + r.length) (r.at + r.length) rs (omega arith) o.2) (end_filter_from p m (r.at + r.length) rs (omega (arith, l, o.0)) o.2)
  where
    by : (b : Bool) → fold last (r.at + r.length) (filter p rs) ≤ fold last (r.at + r.length) rs → fold last m (filter p rs) ≤ fold last (r.at + r.length) rs
        → fold last m (cond b (r ∷ filter p rs) (filter p rs)) ≤ fold last (r.at + r.length) rs
    by true a c = a
    by false a c = c

-- fewer records end no later
pub end_filter : (p : CoreRecord → Bool) (rs : List CoreRecord) → AreInOrder 0 rs → end_of (filter p rs) ≤ end_of rs
end_filter p rs o = end_filter_from p 0 0 rs (omega arith) o

-- each begins above the one before it
adjacent : (from : ℕ) (rs : List CoreRecord) (k : ℕ) (d : CoreRecord) → AreInOrder from rs → suc k < length rs → (get_or rs k d).at < (get_or rs (suc k) d).at
adjacent from [] k d o l = absurd (omega (arith, l))
adjacent from (r ∷ []) k d o l = absurd (omega (arith, l))
adjacent from (r ∷ q ∷ rs) zero d o l = let a = o.1 in let b = o.2.0 in omega (arith, a, b)
adjacent from (r ∷ q ∷ rs) (suc k) d o l = adjacent (r.at + r.length) (q ∷ rs) k d o.2 (omega (arith, l))

sorted : (rs : List CoreRecord) → AreInOrder 0 rs → IsSortedBy (λ x y. is_lt (nat_cmp x.at y.at)) rs
sorted rs o k d low l = rw add-one (not_less (get_or rs (suc k) d).at (get_or rs k d).at (adjacent 0 rs k d o (omega (arith, l))))
  where
    not_less : (m n : ℕ) → n < m → is_lt (nat_cmp m n) ≡ false
    not_less m n l = grind (arith, nat_tests)

-- what a search for an offset answers
pub searched : (rs : List CoreRecord) (at : ℕ) (result : Result ℕ ℕ) → AreInOrder 0 rs → IsBinarySearchResult (λ r. nat_cmp r.at at) rs result
    → MatchResult result (λ i. (d : CoreRecord) → (get_or rs i d).at ≡ at) (λ i. ¬ (IsPresent rs at))
searched rs at (Ok i) o h = λ d. exact_unsigned (get_or rs i d).at at (h d)
searched rs at (Err i) o h = λ p. absurd (refuted p)
  where
    parted : IsPartitionPoint (λ r. nat_cmp r.at at ≡ Less) (λ r. nat_cmp r.at at ≡ Greater) rs i
    parted = h (searchable_from_sorted nat_cmp_total (λ r. r.at) rs at (sorted rs o))

    not_equal : (n : ℕ) (x : Ordering) → n ≡ at → nat_cmp n at ≡ x → Equal ≡ x
    not_equal n x e f = nat_cmp_is at at Equal refl ∙ (ap (λ m. nat_cmp m at) (sym e) ∙ f)

    order : (m n : ℕ) → (m < n) ⊎ (n ≤ m)
    order m n = grind arith

    refuted : IsPresent rs at → ⊥
    refuted (r, (k, low, is), e) = by (order k i)
      where
        by : (k < i) ⊎ (i ≤ k) → ⊥
        by (inl l) = let w = not_equal r.at Less e (subst (λ (x : CoreRecord). nat_cmp x.at at ≡ Less) is (parted.0 k r (omega arith) l)) in cc
        by (inr l) = let w = not_equal r.at Greater e (subst (λ (x : CoreRecord). nat_cmp x.at at ≡ Greater) is (parted.1 k r l low)) in cc
