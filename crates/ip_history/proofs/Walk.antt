-- How far a walk has come: what the open commits' flags say, one more commit, and what is left where none is live.
use Rattle.std.proofs.Common.{◌≡◌, ◌≢◌, ◌⊎◌, inl, inr, ℕ, ◌+◌, ◌-◌, ◌<◌, ◌≤◌, [], sym, ap, subst, ◌∙◌, Bool, true, arith}
use Rattle.std.proofs.lemmas.Bool.Decides.{nat_tests}
use Rattle.std.specs.Prelude.{◌&&◌, Contains, slice_index_or, nat_le}
use Rattle.std.proofs.lemmas.Bool.{and_from}
use Rattle.ip_spec.specs.Repository.{Repository}
use Rattle.ip_spec.specs.History.{parents_at, Ancestor, itself, of_parent}
use Rattle.ip_history.specs.History.{History, HasParentsFirst, Shows}
use Rattle.ip_history.specs.Frontier.{Commits, at, flagged, is_parent, Passes, IsTaken}
use Rattle.ip_history.specs.declared.frontier.Flags.{Flags}
use Rattle.ip_history.proofs.Lists.{no_true, both_first, both_second, has, has_from, has_to}
use Rattle.ip_history.proofs.Parents.{not_greater, parent_in, parent_out, parents_first}
use Rattle.ip_history.proofs.Flagged.{IsFlag, or_true, first_true, second_true, flagged_there, apart_or_same, passes_flag}

-- the flags that are set say P, and each commit below the bound of which P says so is below one that is flagged
pub record IsFollowed (r : Repository) (K : Flags → Bool) (cs : Commits) (bound : ℕ) (P : ℕ → Type 0) : Type 0 where
  pub sound : (k : ℕ) → flagged K (at cs k) ≡ true → P k
  pub complete : (a : ℕ) → a < bound → P a → (k : ℕ) × (flagged K (at cs k) ≡ true) × Ancestor r a k

module _ (h : History) (r : Repository) (shows : Shows h r) (first : HasParentsFirst h) where
  -- an ancestor's number is not greater
  pub not_above : (a : ℕ) {n : ℕ} → Ancestor r a n → a ≤ n
  not_above a up = not_greater r (parents_first h r shows first) a up

  parent_test : (n p : ℕ) → Contains (parents_at r n) p → is_parent h n p ≡ true
  parent_test n p c =
      let (k, is, less, in_table, low) = parent_out h r shows n p c in
      let e : k ≡ n - h.floor = omega (arith, is) in
      and_from (nat_le h.floor p) (has (slice_index_or h.parents (n - h.floor) []) p) (grind (arith, nat_tests)) (has_from (slice_index_or h.parents (n - h.floor) []) p (subst (λ j. Contains (slice_index_or h.parents j []) p) e in_table))

  test_parent : (n p : ℕ) → h.floor ≤ n → is_parent h n p ≡ true → Contains (parents_at r n) p
  test_parent n p held t =
      let least = both_first (nat_le h.floor p) (has (slice_index_or h.parents (n - h.floor) []) p) t in
      let in_list = has_to (slice_index_or h.parents (n - h.floor) []) p (both_second (nat_le h.floor p) (has (slice_index_or h.parents (n - h.floor) []) p) t) in
      let low : h.floor ≤ p = grind (arith, nat_tests) in
      let e : h.floor + (n - h.floor) ≡ n = omega (arith, held) in
      subst (λ m. Contains (parents_at r m) p) e (parent_in h r shows (n - h.floor) p in_list low)

  -- ---- one more commit, the greatest, which passes g where it has f

  module _ (cs taken new : Commits) (bound n : ℕ) (f g : Flags) (low : n < bound) (held : h.floor ≤ n) (take : IsTaken cs taken n f) (pass : Passes h n g taken new) where
    module _ (K : Flags → Bool) (joins : IsFlag K) where
      -- what has the flag now had it, or is a parent of one that passes it
      now_flagged : (k : ℕ) → flagged K (at new k) ≡ true → (flagged K (at cs k) ≡ true) ⊎ (Contains (parents_at r n) k × (K g ≡ true))
      now_flagged k t = by (or_true (flagged K (at taken k)) (is_parent h n k && K g) (sym (passes_flag K joins h n g taken new pass k) ∙ t))
        where
          kept : (k ≡ n) ⊎ (k ≢ n) → flagged K (at taken k) ≡ true → flagged K (at cs k) ≡ true
          kept (inl e) had = absurd (no_true (flagged K (at taken k)) (ap (λ m. flagged K (at taken m)) e ∙ ap (flagged K) take.left.here) had)
          kept (inr ne) had = sym (ap (flagged K) (take.left.others k ne)) ∙ had

          by : (flagged K (at taken k) ≡ true) ⊎ ((is_parent h n k && K g) ≡ true) → (flagged K (at cs k) ≡ true) ⊎ (Contains (parents_at r n) k × (K g ≡ true))
          by (inl had) = inl (kept (apart_or_same k n) had)
          by (inr got) = inr (test_parent n k held (both_first (is_parent h n k) (K g) got), both_second (is_parent h n k) (K g) got)

      -- another one stays flagged
      still_flagged : (k : ℕ) → k ≢ n → flagged K (at cs k) ≡ true → flagged K (at new k) ≡ true
      still_flagged k ne t = passes_flag K joins h n g taken new pass k ∙ first_true (flagged K (at taken k)) (is_parent h n k && K g) (ap (flagged K) (take.left.others k ne) ∙ t)

      by_parent : (a : ℕ) → a < n → K g ≡ true → Ancestor r a n → (k : ℕ) × (flagged K (at new k) ≡ true) × Ancestor r a k
      by_parent a less t itself = absurd (omega (arith, less))
      by_parent a less t (of_parent p c up) = (p, passes_flag K joins h n g taken new pass p ∙ second_true (flagged K (at taken p)) (is_parent h n p && K g) (and_from (is_parent h n p) (K g) (parent_test n p c) t), up)

      module _ (P Q : ℕ → Type 0) where
        pub follow : IsFollowed r K cs bound P → (K f ≡ true → K g ≡ true) → ((a : ℕ) → P a → Q a) → ((p : ℕ) → K g ≡ true → Contains (parents_at r n) p → Q p) → ((a : ℕ) → a < n → Q a → P a ⊎ ((K g ≡ true) × Ancestor r a n)) → IsFollowed r K new n Q
        follow s passes keeps parents splits = record { sound = λ k t. says k (now_flagged k t); complete = λ a less q. below a less (splits a less q) }
          where
            says : (k : ℕ) → (flagged K (at cs k) ≡ true) ⊎ (Contains (parents_at r n) k × (K g ≡ true)) → Q k
            says k (inl t) = keeps k (s.sound k t)
            says k (inr (c, t)) = parents k t c

            below : (a : ℕ) → a < n → P a ⊎ ((K g ≡ true) × Ancestor r a n) → (k : ℕ) × (flagged K (at new k) ≡ true) × Ancestor r a k
            below a less (inr (t, up)) = by_parent a less t up
            below a less (inl p) = go (s.complete a (omega (arith, less, low)) p)
              where
                go : (k : ℕ) × (flagged K (at cs k) ≡ true) × Ancestor r a k → (k : ℕ) × (flagged K (at new k) ≡ true) × Ancestor r a k
                go (k, t, up) = turn (apart_or_same k n)
                  where
                    turn : (k ≡ n) ⊎ (k ≢ n) → (k : ℕ) × (flagged K (at new k) ≡ true) × Ancestor r a k
                    turn (inr ne) = (k, still_flagged k ne t, up)
                    turn (inl e) =
                        let had : K f ≡ true = sym (ap (flagged K) take.was) ∙ (ap (λ m. flagged K (at cs m)) (sym e) ∙ t) in
                        by_parent a less (passes had) (subst (Ancestor r a) e up)

    -- nothing between the greatest and the bound, and the greatest has its flag
    module _ (K : Flags → Bool) (P : ℕ → Type 0) (s : IsFollowed r K cs bound P) where
      pub not_between : (a : ℕ) → n < a → a < bound → P a → ⊥
      not_between a more less p = go (s.complete a less p)
        where
          go : (k : ℕ) × (flagged K (at cs k) ≡ true) × Ancestor r a k → ⊥
          go (k, t, up) =
              let high = take.greatest k (flagged_there K (at cs k) t) in
              let at_least = not_above a up in
              absurd (omega (arith, high, at_least, more))

      pub has_flag : P n → K f ≡ true
      has_flag p = go (s.complete n low p)
        where
          go : (k : ℕ) × (flagged K (at cs k) ≡ true) × Ancestor r n k → K f ≡ true
          go (k, t, up) =
              let high = take.greatest k (flagged_there K (at cs k) t) in
              let at_least = not_above n up in
              let e : k ≡ n = omega (arith, high, at_least) in
              sym (ap (flagged K) take.was) ∙ (ap (λ m. flagged K (at cs m)) (sym e) ∙ t)

      pub flag_says : K f ≡ true → P n
      flag_says t = s.sound n (ap (flagged K) take.was ∙ t)
