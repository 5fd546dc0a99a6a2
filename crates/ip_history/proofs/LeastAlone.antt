-- Of two commits one is an ancestor of the other exactly where it is a least common ancestor of them, and there is no other.
use Rattle.std.proofs.Common.{◌≡◌, ◌≢◌, ℕ, ◌+◌, ◌-◌, ◌≤◌, ◌<◌, List, [], ◌∷◌, length, sym, subst, ◌∙◌, Bool, true, false, arith}
use Rattle.std.specs.Prelude.{◌↔◌, ◌&&◌, ◌==◌, not, Contains, filter, IsTrue, nat_le, nat_lt}
use Rattle.std.specs.List.{list_any}
use Rattle.std.proofs.lemmas.Bool.Decides.{nat_tests}
use Rattle.std.proofs.lemmas.Bool.{and_from}
use Rattle.ip_spec.specs.Repository.{Repository, next, is_retained}
use Rattle.ip_spec.specs.History.{Ancestor, itself, ParentsFirst, is_ancestor, is_proper_ancestor, is_common, retained, common, lcas}
use Rattle.ip_spec.proofs.HistoryLaws.{ancestor_test, test_ancestor}
use Rattle.ip_history.proofs.Lists.{no_true, both_first, both_second, number_same, one, only, filtered, of_filtered, any_at, at_any, filter_filter, range_has}
use Rattle.ip_history.proofs.Parents.{not_greater}
use Rattle.ip_history.proofs.Found.{one_found}
use Rattle.ip_history.proofs.Results.{not_true, not_false, was_false, is_false}

module _ (r : Repository) (first : ParentsFirst r) (a b : ℕ) where
  abbrev shared : ℕ → Bool
  shared = is_common r (b ∷ []) a

  abbrev all : List ℕ
  all = filter shared (retained r)

  abbrev free : ℕ → Bool
  free x = not (list_any (is_proper_ancestor r x) all)

  shared_by : (x : ℕ) → shared x ≡ true → Ancestor r x a × Ancestor r x b
  shared_by x t =
      let (m, c, is) = at_any (λ m. is_ancestor r x m) (b ∷ []) (both_second (is_ancestor r x a) (list_any (λ m. is_ancestor r x m) (b ∷ [])) t) in
      (ancestor_test r first x a (both_first (is_ancestor r x a) (list_any (λ m. is_ancestor r x m) (b ∷ [])) t), subst (Ancestor r x) (sym (only b m c)) (ancestor_test r first x m is))

  is_shared : (x : ℕ) → Ancestor r x a → Ancestor r x b → shared x ≡ true
  is_shared x own other = and_from (is_ancestor r x a) (list_any (λ m. is_ancestor r x m) (b ∷ [])) (test_ancestor r first x a own) (any_at (λ m. is_ancestor r x m) (b ∷ []) b (one b) (test_ancestor r first x b other))

  least_is : lcas r b a ≡ filter (λ x. shared x && free x) (retained r)
  unfolding common
  least_is = filter_filter free shared (retained r)

  -- a least common one is an ancestor of both
  least_shared : (m : ℕ) → lcas r b a ≡ m ∷ [] → Ancestor r m a × Ancestor r m b
  least_shared m is =
      let there = subst (λ xs. Contains xs m) (sym is ∙ least_is) (one m) in
      shared_by m (both_first (shared m) (free m) (of_filtered (λ x. shared x && free x) (retained r) m there).1)

  -- a retained one of which all common ones are ancestors is the least one
  module _ (m : ℕ) (held : IsTrue (is_retained r m)) (own : Ancestor r m a) (other : Ancestor r m b) (above : (x : ℕ) → Ancestor r x a → Ancestor r x b → Ancestor r x m) where
    low : r.floor ≤ m
    low = let t = both_first (nat_le r.floor m) (nat_lt m (next r)) held in grind (arith, nat_tests)

    high : m < r.floor + length r.commits
    high = let t = both_second (nat_le r.floor m) (nat_lt m (next r)) held in grind (arith, nat_tests)

    in_all : Contains all m
    in_all =
        let place : r.floor + (m - r.floor) ≡ m = (let l = low in omega (arith, l)) in
        let there = range_has r.floor (length r.commits) (m - r.floor) (let l = low in let h = high in omega (arith, l, h)) in
        filtered shared (retained r) m (subst (Contains (retained r)) place there) (is_shared m own other)

    m_free : free m ≡ true
    m_free = not_false (list_any (is_proper_ancestor r m) all) (is_false (list_any (is_proper_ancestor r m) all) none_below)
      where
        none_below : list_any (is_proper_ancestor r m) all ≡ true → ⊥
        none_below t =
            let (x, c, proper) = at_any (is_proper_ancestor r m) all t in
            let ways = shared_by x (of_filtered shared (retained r) x c).1 in
            let up = not_greater r first m (ancestor_test r first m x (both_first (is_ancestor r m x) (not (m == x)) proper)) in
            let down = not_greater r first x (above x ways.0 ways.1) in
            let same : m ≡ x = omega (arith, up, down) in
            no_true (m == x) (was_false (m == x) (both_second (is_ancestor r m x) (not (m == x)) proper)) (number_same m x same)

    others_fail : (x : ℕ) → x ≢ m → (shared x && free x) ≡ false
    others_fail x apart = is_false (shared x && free x) (λ t. no_true (free x) (not_true (list_any (is_proper_ancestor r x) all) (below t)) (both_second (shared x) (free x) t))
      where
        below : (shared x && free x) ≡ true → list_any (is_proper_ancestor r x) all ≡ true
        below t =
            let ways = shared_by x (both_first (shared x) (free x) t) in
            let differs : (x == m) ≡ false = grind arith in
            any_at (is_proper_ancestor r x) all m in_all (and_from (is_ancestor r x m) (not (x == m)) (test_ancestor r first x m (above x ways.0 ways.1)) (not_false (x == m) differs))

    least_alone : lcas r b a ≡ m ∷ []
    least_alone = least_is ∙ one_found (λ x. shared x && free x) r.floor (length r.commits) m low high (and_from (shared m) (free m) (is_shared m own other) m_free) others_fail

pub ancestor_meets : (r : Repository) → ParentsFirst r → (a b : ℕ) → IsTrue (is_retained r a) → IsTrue (is_ancestor r a b) ↔ (lcas r b a ≡ a ∷ [])
ancestor_meets r first a b held = (
  λ t. least_alone r first a b a held itself (ancestor_test r first a b t) (λ x own other. own),
  λ is. test_ancestor r first a b (least_shared r first a b a is).1,
)

pub proper_meets : (r : Repository) → ParentsFirst r → (a b : ℕ) → IsTrue (is_retained r b) → IsTrue (is_proper_ancestor r b a) ↔ ((b ≢ a) × (lcas r b a ≡ b ∷ []))
proper_meets r first a b held = (
  λ t. (
    λ e. no_true (b == a) (was_false (b == a) (both_second (is_ancestor r b a) (not (b == a)) t)) (number_same b a e),
    least_alone r first a b b held (ancestor_test r first b a (both_first (is_ancestor r b a) (not (b == a)) t)) itself (λ x own other. other),
  ),
  λ (apart, is). and_from (is_ancestor r b a) (not (b == a)) (test_ancestor r first b a (least_shared r first a b b is).0) (differs apart),
)
  where
    differs : b ≢ a → not (b == a) ≡ true
    differs apart = not_false (b == a) (grind arith)
