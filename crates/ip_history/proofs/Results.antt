-- The tests of ancestors and of common ones, and what they decide.
use Rattle.std.proofs.Common.{◌≡◌, ◌⊎◌, inl, inr, ℕ, ◌+◌, ◌-◌, ◌<◌, ◌≤◌, List, length, refl, ap, subst, ◌∙◌, Bool, true, false, arith}
use Rattle.std.specs.Prelude.{◌↔◌, ◌&&◌, ◌==◌, not, Contains, filter}
use Rattle.std.specs.List.{list_any, range_with_len}
use Rattle.std.proofs.lemmas.Bool.{cases_Bool, and_from}
use Rattle.ip_spec.specs.Repository.{Repository}
use Rattle.ip_spec.specs.History.{Ancestor, is_ancestor, is_proper_ancestor, is_common, retained}
use Rattle.ip_spec.proofs.HistoryLaws.{ancestor_test, test_ancestor}
use Rattle.ip_history.specs.History.{History, HasParentsFirst, Holds, Shows, AboveOneOf}
use Rattle.ip_history.proofs.Lists.{no_true, both_first, both_second, filtered, of_filtered, any_at, at_any, range_has}
use Rattle.ip_history.proofs.Parents.{parents_first}
use Rattle.ip_history.proofs.Walk.{not_above}

pub not_true : (b : Bool) → b ≡ true → not b ≡ false
not_true b h = rw h refl

pub not_false : (b : Bool) → b ≡ false → not b ≡ true
not_false b h = rw h refl

pub was_false : (b : Bool) → not b ≡ true → b ≡ false
was_false true h = absurd (no_true false refl h)
was_false false h = refl

pub is_false : (b : Bool) → (b ≡ true → ⊥) → b ≡ false
is_false true h = absurd (h refl)
is_false false h = refl

module _ (h : History) (r : Repository) (shows : Shows h r) (first : HasParentsFirst h) where
  pub numbers_retained : (p : ℕ → Bool) → filter p (range_with_len h.floor (length h.parents)) ≡ filter p (retained r)
  numbers_retained p = ap (λ f. filter p (range_with_len f (length h.parents))) shows.floor ∙ ap (λ n. filter p (range_with_len r.floor n)) shows.count

  pub to_test : (a n : ℕ) → Ancestor r a n → is_ancestor r a n ≡ true
  to_test = test_ancestor r (parents_first h r shows first)

  pub of_test : (a n : ℕ) → is_ancestor r a n ≡ true → Ancestor r a n
  of_test = ancestor_test r (parents_first h r shows first)

  above_some : (a : ℕ) (ns : List ℕ) → AboveOneOf r ns a ↔ (list_any (λ m. is_ancestor r a m) ns ≡ true)
  above_some a ns = (λ (m, c, up). any_at (λ m. is_ancestor r a m) ns m c (to_test a m up), λ t. let f = at_any (λ m. is_ancestor r a m) ns t in (f.0, f.1, of_test a f.0 f.2))

  module _ (ns : List ℕ) (n : ℕ) (held : Holds h n) where
    abbrev all : List ℕ
    all = filter (is_common r ns n) (retained r)

    abbrev free : ℕ → Bool
    free a = not (list_any (is_proper_ancestor r a) all)

    -- common, and a proper ancestor of no common one
    abbrev pub is_result : ℕ → Bool
    is_result a = is_common r ns n a && free a

    common_own : (a : ℕ) → is_common r ns n a ≡ true → Ancestor r a n
    common_own a t = of_test a n (both_first (is_ancestor r a n) (list_any (λ m. is_ancestor r a m) ns) t)

    common_listed : (a : ℕ) → is_common r ns n a ≡ true → AboveOneOf r ns a
    common_listed a t = (above_some a ns).1 (both_second (is_ancestor r a n) (list_any (λ m. is_ancestor r a m) ns) t)

    pub result_own : (a : ℕ) → is_result a ≡ true → Ancestor r a n
    result_own a t = common_own a (both_first (is_common r ns n a) (free a) t)

    pub result_listed : (a : ℕ) → is_result a ≡ true → AboveOneOf r ns a
    result_listed a t = common_listed a (both_first (is_common r ns n a) (free a) t)

    is_common_one : (a : ℕ) → Ancestor r a n → AboveOneOf r ns a → is_common r ns n a ≡ true
    is_common_one a own listed = and_from (is_ancestor r a n) (list_any (λ m. is_ancestor r a m) ns) (to_test a n own) ((above_some a ns).0 listed)

    -- an ancestor of a common one with a greater number is no result
    pub no_result : (a c : ℕ) → a < c → h.floor ≤ c → Ancestor r c n → AboveOneOf r ns c → Ancestor r a c → is_result a ≡ true → ⊥
    no_result a c less low own listed up t =
        let high = not_above h r shows first c own in
        let top = held.1 in
        let e : h.floor + (c - h.floor) ≡ c = omega (arith, low) in
        let in_range = range_has h.floor (length h.parents) (c - h.floor) (omega (arith, low, high, top)) in
        let kept : Contains (retained r) c = subst (λ f. Contains (range_with_len f (length r.commits)) c) shows.floor (subst (λ q. Contains (range_with_len h.floor q) c) shows.count (subst (Contains (range_with_len h.floor (length h.parents))) e in_range)) in
        let in_all = filtered (is_common r ns n) (retained r) c kept (is_common_one c own listed) in
        let apart : (a == c) ≡ false = grind arith in
        let proper = and_from (is_ancestor r a c) (not (a == c)) (to_test a c up) (not_false (a == c) apart) in
        let some = any_at (is_proper_ancestor r a) all c in_all proper in
        no_true (free a) (not_true (list_any (is_proper_ancestor r a) all) some) (both_second (is_common r ns n a) (free a) t)

    -- a common one is a result, or an ancestor of a common one with a greater number
    pub result_or : (a : ℕ) → Ancestor r a n → AboveOneOf r ns a → (is_result a ≡ true) ⊎ ((c : ℕ) × (a < c) × Ancestor r c n × AboveOneOf r ns c × Ancestor r a c)
    result_or a own listed = by (cases_Bool (list_any (is_proper_ancestor r a) all))
      where
        by : (list_any (is_proper_ancestor r a) all ≡ true) ⊎ (list_any (is_proper_ancestor r a) all ≡ false) → (is_result a ≡ true) ⊎ ((c : ℕ) × (a < c) × Ancestor r c n × AboveOneOf r ns c × Ancestor r a c)
        by (inr f) = inl (and_from (is_common r ns n a) (free a) (is_common_one a own listed) (not_false (list_any (is_proper_ancestor r a) all) f))
        by (inl t) =
            let (c, in_all, proper) = at_any (is_proper_ancestor r a) all t in
            let is = (of_filtered (is_common r ns n) (retained r) c in_all).1 in
            let up = of_test a c (both_first (is_ancestor r a c) (not (a == c)) proper) in
            let ne : (a == c) ≡ false = was_false (a == c) (both_second (is_ancestor r a c) (not (a == c)) proper) in
            let high = not_above h r shows first a up in
            let less : a < c = grind arith in
            inr (c, less, common_own c is, common_listed c is, up)
