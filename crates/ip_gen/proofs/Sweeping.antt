-- The descending pass finds the least set: references point strictly below, so what a record adds is still ahead of the pass.
use Rattle.std.proofs.Common.{◌≡◌, ◌⊎◌, inl, inr, ℕ, zero, suc, ◌+◌, ◌<◌, ◌≤◌, List, [], ◌∷◌, sym, ap, subst, ◌∙◌, arith, length, get_or, drop}
use Rattle.std.specs.Prelude.{◌↔◌, Contains}
use Rattle.std.specs.Ordering.{nat_cmp}
use Rattle.std.specs.BTreeSet.{BTreeSet, IsOrdered}
use Rattle.std.proofs.lemmas.Map.Keys.{IsStrictlyIncreasing-from_sorted}
use Rattle.std.proofs.Math.Seq.{drop-cons}
use Rattle.ip_spec.specs.declared.event.CoreRecord.{CoreRecord}
use Rattle.ip_spec.specs.Core.{AreInOrder, AreReached, Reached, from_above, from_kept, end_of}
use Rattle.ip_gen.specs.Laws.{RefersBelow}
use Rattle.ip_gen.proofs.Lists.{split}
use Rattle.ip_gen.proofs.Order.{inside, from_there}

-- after the pass over the records from the i-th on: nothing is kept in vain, and these records have all that they ask for
pub record IsSwept (records : List CoreRecord) (h i : ℕ) (kept : BTreeSet ℕ) : Type 0 where
  pub ordered : IsOrdered nat_cmp kept
  pub sound : (at : ℕ) → Contains kept.keys at → Reached records h (end_of records) at
  pub passed : (r : CoreRecord) (at : ℕ) → Contains (drop i records) r → ((h ≤ r.at) ⊎ Contains kept.keys r.at) → Contains r.refs at → at < h → Contains kept.keys at

-- what comes after a record lies above it
after : (from : ℕ) (rs : List CoreRecord) (i : ℕ) (d r : CoreRecord) → AreInOrder from rs → i < length rs → Contains (drop (suc i) rs) r → (get_or rs i d).at < r.at
after from [] i d r o l c = absurd (omega (arith, l))
after from (q ∷ rs) zero d r o l c = let a = from_there (q.at + q.length) rs r o.2 c in omega (arith, a, o.1)
after from (q ∷ rs) (suc i) d r o l c = after (q.at + q.length) rs i d r o.2 (omega (arith, l)) c

-- the record at i comes first of those from i on
first : (rs : List CoreRecord) (i : ℕ) (r q : CoreRecord) → i < length rs → r ≡ get_or rs i r → Contains (drop i rs) q → (r ≡ q) ⊎ Contains (drop (suc i) rs) q
first rs i r q l is c = by (split q (get_or rs i r) (drop (suc i) rs) (subst (λ l. Contains l q) (drop-cons rs i r l) c))
  where
    by : (get_or rs i r ≡ q) ⊎ Contains (drop (suc i) rs) q → (r ≡ q) ⊎ Contains (drop (suc i) rs) q
    by (inl e) = inl (is ∙ e)
    by (inr c) = inr c

-- a record that is passed by keeps nothing
pub swept_by : (records : List CoreRecord) (h i : ℕ) (kept : BTreeSet ℕ) (r : CoreRecord) → i < length records → r ≡ get_or records i r
    → r.at < h → ¬ (Contains kept.keys r.at) → IsSwept records h (suc i) kept → IsSwept records h i kept
swept_by records h i kept r l is under not_kept s = record {
  ordered = s.ordered;
  sound = s.sound;
  passed = λ q at c asks ref below. by q at (first records i r q l is c) asks ref below;
}
  where
    refuted : (q : CoreRecord) → r ≡ q → ((h ≤ q.at) ⊎ Contains kept.keys q.at) → ⊥
    refuted q e (inl high) = let a : r.at ≡ q.at = ap (λ x. x.at) e in omega (arith, a, high, under)
    refuted q e (inr k) = not_kept (subst (λ (x : CoreRecord). Contains kept.keys x.at) (sym e) k)

    by : (q : CoreRecord) (at : ℕ) → (r ≡ q) ⊎ Contains (drop (suc i) records) q → ((h ≤ q.at) ⊎ Contains kept.keys q.at) → Contains q.refs at → at < h → Contains kept.keys at
    by q at (inl e) asks ref below = absurd (refuted q e asks)
    by q at (inr c) asks ref below = s.passed q at c asks ref below

-- a record that stays keeps what it refers to
pub swept_more : (records : List CoreRecord) (h i : ℕ) (kept more : BTreeSet ℕ) (r : CoreRecord) → AreInOrder 0 records → RefersBelow records → i < length records → r ≡ get_or records i r
    → ((h ≤ r.at) ⊎ Contains kept.keys r.at) → IsOrdered nat_cmp more
    → ((at : ℕ) → Contains more.keys at ↔ (Contains kept.keys at ⊎ (Contains r.refs at × (at < h)))) → IsSwept records h (suc i) kept → IsSwept records h i more
swept_more records h i kept more r order down l is stays ordered adds s = record {
  ordered = ordered;
  sound = λ at c. sound at ((adds at).0 c);
  passed = λ q at c asks ref below. by q at (first records i r q l is c) asks ref below;
}
  where
    there : Contains records r
    there = (i, l, sym is)

    reached : (at : ℕ) → ((h ≤ r.at) ⊎ Contains kept.keys r.at) → Contains r.refs at → at < h → Reached records h (end_of records) at
    reached at (inl high) ref below = from_above r at there high (inside records r order there) ref below
    reached at (inr k) ref below = from_kept r at there (s.sound r.at k) ref

    sound : (at : ℕ) → Contains kept.keys at ⊎ (Contains r.refs at × (at < h)) → Reached records h (end_of records) at
    sound at (inl k) = s.sound at k
    sound at (inr (ref, below)) = reached at stays ref below

    -- what this record adds lies below it, so no record that was passed is among it
    was : (q : CoreRecord) → Contains (drop (suc i) records) q → Contains kept.keys q.at ⊎ (Contains r.refs q.at × (q.at < h)) → Contains kept.keys q.at
    was q c (inl k) = k
    was q c (inr (ref, below)) =
        let a = after 0 records i r q order l c in
        let b : (get_or records i r).at ≡ r.at = ap (λ x. x.at) (sym is) in
        let d = (down r q.at there ref).0 in
        absurd (omega (arith, a, b, d))

    asked : (q : CoreRecord) → Contains (drop (suc i) records) q → ((h ≤ q.at) ⊎ Contains more.keys q.at) → (h ≤ q.at) ⊎ Contains kept.keys q.at
    asked q c (inl high) = inl high
    asked q c (inr k) = inr (was q c ((adds q.at).0 k))

    by : (q : CoreRecord) (at : ℕ) → (r ≡ q) ⊎ Contains (drop (suc i) records) q → ((h ≤ q.at) ⊎ Contains more.keys q.at) → Contains q.refs at → at < h → Contains more.keys at
    by q at (inl e) asks ref below = (adds at).1 (inr (subst (λ (x : CoreRecord). Contains x.refs at) (sym e) ref, below))
    by q at (inr c) asks ref below = (adds at).1 (inl (s.passed q at c (asked q c asks) ref below))

-- what is reached lies below the commit
pub reached_below : (records : List CoreRecord) (h e at : ℕ) → RefersBelow records → Reached records h e at → at < h
reached_below records h e to down (from_above r at c high low ref below) = below
reached_below records h e to down (from_kept r at c reach ref) = let a = reached_below records h e r.at down reach in let b = (down r at c ref).0 in omega (arith, a, b)

all_reached : (records : List CoreRecord) (h e at : ℕ) (kept : BTreeSet ℕ) → RefersBelow records → IsSwept records h 0 kept → Reached records h e at → Contains kept.keys at
all_reached records h e to kept down s (from_above r at c high low ref below) = s.passed r at c (inl high) ref below
all_reached records h e to kept down s (from_kept r at c reach ref) =
    s.passed r at c (inr (all_reached records h e r.at kept down s reach)) ref (let a = reached_below records h e r.at down reach in let b = (down r at c ref).0 in omega (arith, a, b))

-- after the whole pass the least set is kept
pub swept : (records : List CoreRecord) (h : ℕ) (kept : BTreeSet ℕ) → RefersBelow records → IsSwept records h 0 kept → AreReached records h (end_of records) kept.keys
swept records h kept down s = record {
  ascending = IsStrictlyIncreasing-from_sorted kept.keys s.ordered;
  each = λ at. (s.sound at, all_reached records h (end_of records) at kept down s);
}
