-- The numbers in a repository's commits show its history.
use Rattle.std.proofs.Common.{◌≡◌, ℕ, zero, suc, ◌+◌, ◌-◌, ◌<◌, List, [], ◌∷◌, length, refl, sym, ap, subst, ◌∙◌, Bool, true, false, cond, arith}
use Rattle.std.specs.List.{cons_option}
use Rattle.std.proofs.lemmas.List.{length-map}
use Rattle.std.specs.Prelude.{◌&&◌, Contains, map, filter, filter_map, slice_index_or, slice_get, nat_le, nat_lt, Option, Some, None, IfSome, option_map, unwrap_or, if◌then◌else◌}
use Rattle.std.proofs.lemmas.Bool.Decides.{nat_tests}
use Rattle.std.proofs.lemmas.List.Elements.{All-contains}
use Rattle.ip_spec.specs.Repository.{Repository, Commit, CommitParent, IsRepository, IsCommit, commit_at}
use Rattle.ip_spec.specs.History.{parents_at, retained_number}
use Rattle.ip_history.specs.History.{listed, history_of, Shows}

-- of parents below the next number, those that are retained are those that are not below the floor
numbers_kept : (r : Repository) (ps : List CommitParent) → ((p : CommitParent) → Contains ps p → IfSome p.number (λ n. n < r.floor + length r.commits)) → filter (λ n. nat_le r.floor n) (filter_map (λ (p : CommitParent). p.number) ps) ≡ filter_map (λ (p : CommitParent). retained_number r p.number) ps
numbers_kept r [] below = refl
numbers_kept r (p ∷ ps) below = by p.number (below p (0, omega arith, refl)) (numbers_kept r ps (λ q c. below q (suc c.0, omega (arith, c.1), c.2)))
  where
    rest : List ℕ
    rest = filter_map (λ (q : CommitParent). q.number) ps

    kept : List ℕ
    kept = filter_map (λ (q : CommitParent). retained_number r q.number) ps

    by : (number : Option ℕ) → IfSome number (λ n. n < r.floor + length r.commits) → filter (λ n. nat_le r.floor n) rest ≡ kept → filter (λ n. nat_le r.floor n) (cons_option number rest) ≡ cons_option (retained_number r number) kept
    by None low ih = ih
    by (Some n) low ih = pick (nat_le r.floor n) refl
      where
        less : nat_lt n (r.floor + length r.commits) ≡ true
        less = grind (arith, nat_tests)

        pick : (b : Bool) → nat_le r.floor n ≡ b → cond b (n ∷ filter (λ m. nat_le r.floor m) rest) (filter (λ m. nat_le r.floor m) rest) ≡ cons_option (if (b && nat_lt n (r.floor + length r.commits)) then Some n else None) kept
        pick true e = rw less (ap (λ ns. n ∷ ns) ih)
        pick false e = ih

at_map : (cs : List Commit) (k : ℕ) → k < length cs → (c : Commit) × (slice_get cs k ≡ Some c) × (slice_index_or (map (λ (d : Commit). filter_map (λ (p : CommitParent). p.number) d.parents) cs) k [] ≡ filter_map (λ (p : CommitParent). p.number) c.parents)
at_map [] k low = absurd (omega (arith, low))
at_map (c ∷ cs) zero low = (c, refl, refl)
at_map (c ∷ cs) (suc k) low = at_map cs k (omega (arith, low))

pub shown : (r : Repository) → IsRepository r → Shows (history_of r) r
shown r is = record { floor = refl; count = length-map r.commits (λ (d : Commit). filter_map (λ (p : CommitParent). p.number) d.parents); parents = λ k low. at k (at_map r.commits k (subst (λ n. k < n) (length-map r.commits (λ (d : Commit). filter_map (λ (p : CommitParent). p.number) d.parents)) low)) (subst (λ n. k < n) (length-map r.commits (λ (d : Commit). filter_map (λ (p : CommitParent). p.number) d.parents)) low) }
  where
    at : (k : ℕ) → (c : Commit) × (slice_get r.commits k ≡ Some c) × (slice_index_or (history_of r).parents k [] ≡ filter_map (λ (p : CommitParent). p.number) c.parents) → k < length r.commits → listed (history_of r) k ≡ parents_at r (r.floor + k)
    at k (c, got, e) low =
        let least : nat_le r.floor (r.floor + k) ≡ true = grind (arith, nat_tests) in
        let place : r.floor + k - r.floor ≡ k = omega arith in
        let here : commit_at r (r.floor + k) ≡ Some c = rw least (ap (slice_get r.commits) place ∙ got) in
        let good : IsCommit (r.floor + k) c = subst (λ o. IfSome o (λ d. IsCommit (r.floor + k) d)) here (is.commits (r.floor + k)) in
        let below = λ (p : CommitParent). λ (d : Contains c.parents p). under p.number (All-contains (λ (q : CommitParent). IfSome q.number (λ n. n < r.floor + k)) c.parents p good.parents d) in
        ap (filter (λ n. nat_le r.floor n)) e ∙ (numbers_kept r c.parents below ∙ sym (ap (λ o. filter_map (λ (p : CommitParent). retained_number r p.number) (unwrap_or (option_map (λ d. d.parents) o) [])) here))
      where
        under : (number : Option ℕ) → IfSome number (λ n. n < r.floor + k) → IfSome number (λ n. n < r.floor + length r.commits)
        under None h = h
        under (Some n) h = omega (arith, h, low)
