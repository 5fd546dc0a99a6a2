-- How far a log has come: its frontier has the open ancestors, and all above the bound are found.
use Rattle.std.proofs.Common.{◌≡◌, ◌≢◌, ◌⊎◌, inl, inr, ℕ, ◌+◌, ◌-◌, ◌<◌, ◌≤◌, List, [], ◌∷◌, ◌++◌, length, refl, sym, ap, subst, ◌∙◌, true, false, cond, arith}
use Rattle.std.specs.Prelude.{◌||◌, ◌&&◌, Contains, filter, reverse, Option, Some, None, IsSome}
use Rattle.std.specs.List.{range_with_len}
use Rattle.std.proofs.lemmas.Bool.{and_from}
use Rattle.ip_spec.specs.Repository.{Repository}
use Rattle.ip_spec.specs.History.{Ancestor, itself, is_ancestor, ancestors}
use Rattle.ip_history.specs.History.{History, HasParentsFirst, Holds, Shows}
use Rattle.ip_history.specs.Frontier.{Commits, at, flagged, is_parent, Passes, IsTaken, IsHeads}
use Rattle.ip_history.specs.declared.frontier.Flags.{Flags}
use Rattle.ip_history.proofs.Lists.{no_true, none, same_number, number_same}
use Rattle.ip_history.proofs.Parents.{parent_through}
use Rattle.ip_history.proofs.Flagged.{IsFlag, apart_or_same, first_true, second_true, parent_within, passes_there, passes_flag}
use Rattle.ip_history.proofs.Walk.{IsFollowed, follow, not_between}
use Rattle.ip_history.proofs.Found.{from, none_found, found_more, found_all}
use Rattle.ip_history.proofs.Results.{is_false, numbers_retained, to_test, of_test}

-- ---- where the open commits lie

pub record IsWithin (h : History) (cs : Commits) (count bound : ℕ) : Type 0 where
  pub within : (k : ℕ) → IsSome (at cs k) → (h.floor ≤ k) × (k < bound)
  pub low : h.floor ≤ bound
  -- each commit that was looked at has a number of its own
  pub high : count + bound ≤ h.floor + length h.parents

abbrev pub end_of : History → ℕ
end_of h = h.floor + length h.parents

pub within_heads : (h : History) (ns : List ℕ) (n : ℕ) (cs : Commits) → IsHeads ns n cs → Holds h n → ((m : ℕ) → Contains ns m → Holds h m) → IsWithin h cs 0 (end_of h)
within_heads h ns n cs s held all = record { within = λ k there. by k (s.given k there); low = omega arith; high = omega arith }
  where
    by : (k : ℕ) → (n ≡ k) ⊎ Contains ns k → (h.floor ≤ k) × (k < end_of h)
    by k (inl e) = subst (λ m. (h.floor ≤ m) × (m < end_of h)) e held
    by k (inr c) = all k c

pub taken_there : (cs taken : Commits) (n : ℕ) (f : Flags) → IsTaken cs taken n f → IsSome (at cs n)
taken_there cs taken n f take = by (at cs n) take.was
  where
    by : (o : Option Flags) → o ≡ Some f → IsSome o
    by (Some e) h = refl
    by None h = absurd (cc)

pub taken_gone : (cs taken : Commits) (n : ℕ) (f : Flags) → IsTaken cs taken n f → IsSome (at taken n) → ⊥
taken_gone cs taken n f take = by (at taken n) take.left.here
  where
    by : (o : Option Flags) → o ≡ None → IsSome o → ⊥
    by None h there = absurd (no_true false refl there)
    by (Some e) h there = absurd (cc)

pub within_taken : (h : History) (cs taken : Commits) (count bound n : ℕ) (f : Flags) → IsWithin h cs count bound → IsTaken cs taken n f → (h.floor ≤ n) × (n < bound)
within_taken h cs taken count bound n f s take = s.within n (taken_there cs taken n f take)

pub within_more : (h : History) → HasParentsFirst h → (cs taken new : Commits) (count bound n : ℕ) (f g : Flags) → IsWithin h cs count bound → IsTaken cs taken n f → Passes h n g taken new → IsWithin h new (count + 1) n
within_more h first cs taken new count bound n f g s take pass =
    let here = within_taken h cs taken count bound n f s take in
    let low = here.0 in
    let less = here.1 in
    let most = s.high in
    record { within = λ k there. by k (passes_there h n g taken new pass k there); low = low; high = omega (arith, less, most) }
  where
    kept : (k : ℕ) → (k ≡ n) ⊎ (k ≢ n) → IsSome (at taken k) → (h.floor ≤ k) × (k < n)
    kept k (inl e) there = absurd (taken_gone cs taken n f take (subst (λ m. IsSome (at taken m)) e there))
    kept k (inr ne) there =
        let was : IsSome (at cs k) = subst IsSome (take.left.others k ne) there in
        let low = (s.within k was).0 in
        let high = take.greatest k was in
        (low, omega (arith, high, ne))

    by : (k : ℕ) → IsSome (at taken k) ⊎ (is_parent h n k ≡ true) → (h.floor ≤ k) × (k < n)
    by k (inl there) = kept k (apart_or_same k n) there
    by k (inr t) = parent_within h first n k (within_taken h cs taken count bound n f s take).0 t

-- ---- the log

pub record IsLogged (h : History) (r : Repository) (head : ℕ) (numbers : List ℕ) (cs : Commits) (bound : ℕ) : Type 0 where
  pub own : IsFollowed r (λ f. f.own) cs bound (λ a. Ancestor r a head)
  pub alone : (k : ℕ) → IsSome (at cs k) → flagged (λ f. f.own) (at cs k) ≡ true
  pub found : numbers ≡ reverse (from (λ a. is_ancestor r a head) (end_of h) bound)

module _ (h : History) (r : Repository) (shows : Shows h r) (first : HasParentsFirst h) (head : ℕ) where
  pub logged_none : (cs : Commits) → IsHeads [] head cs → IsLogged h r head [] cs (end_of h)
  logged_none cs s = record {
    own = record { sound = λ k t. subst (λ m. Ancestor r m head) (same_number head k (sym (s.own k) ∙ t)) itself; complete = λ a _ up. (head, s.own head ∙ number_same head head refl, up) };
    alone = λ k there. by k (s.given k there);
    found = none_found (λ a. is_ancestor r a head) (end_of h);
  }
    where
      by : (k : ℕ) → (head ≡ k) ⊎ Contains [] k → flagged (λ f. f.own) (at cs k) ≡ true
      by k (inl e) = s.own k ∙ number_same head k e
      by k (inr c) = none k c

  module _ (numbers : List ℕ) (cs taken new : Commits) (count bound n : ℕ) (f : Flags) (range : IsWithin h cs count bound) (take : IsTaken cs taken n f) (pass : Passes h n f taken new) (s : IsLogged h r head numbers cs bound) where
    low : n < bound
    low = (within_taken h cs taken count bound n f range take).1

    floor : h.floor ≤ n
    floor = (within_taken h cs taken count bound n f range take).0

    n_flagged : flagged (λ g. g.own) (at cs n) ≡ true
    n_flagged = s.alone n (taken_there cs taken n f take)

    n_own : Ancestor r n head
    n_own = s.own.sound n n_flagged

    f_own : f.own ≡ true
    f_own = sym (ap (flagged (λ g. g.own)) take.was) ∙ n_flagged

    is_own : IsFlag (λ g. g.own)
    is_own = record { joins = λ e g. refl; clear = refl }

    pub logged_more : IsLogged h r head (numbers ++ n ∷ []) new n
    logged_more = record {
      own = follow h r shows first cs taken new bound n f f low floor take pass (λ g. g.own) is_own (λ a. Ancestor r a head) (λ a. Ancestor r a head) s.own (λ t. t) (λ a up. up) (λ p _ c. parent_through r p n head c n_own) (λ a _ up. inl up);
      alone = λ k there. passes_flag (λ g. g.own) is_own h n f taken new pass k ∙ by k (passes_there h n f taken new pass k there);
      found = ap (λ b. numbers ++ cond b (n ∷ []) []) (sym (to_test h r shows first n head n_own)) ∙ found_more (λ a. is_ancestor r a head) (end_of h) numbers bound n low high (λ k more less. is_false (is_ancestor r k head) (λ t. not_between h r shows first cs taken new bound n f f low floor take pass (λ g. g.own) (λ a. Ancestor r a head) s.own k more less (of_test h r shows first k head t))) s.found;
    }
      where
        most : count + bound ≤ end_of h
        most = range.high

        high : bound ≤ end_of h
        high = omega (arith, most)

        kept : (k : ℕ) → (k ≡ n) ⊎ (k ≢ n) → IsSome (at taken k) → flagged (λ g. g.own) (at taken k) ≡ true
        kept k (inl e) there = absurd (taken_gone cs taken n f take (subst (λ m. IsSome (at taken m)) e there))
        kept k (inr ne) there = ap (flagged (λ g. g.own)) (take.left.others k ne) ∙ s.alone k (subst IsSome (take.left.others k ne) there)

        by : (k : ℕ) → IsSome (at taken k) ⊎ (is_parent h n k ≡ true) → (flagged (λ g. g.own) (at taken k) || (is_parent h n k && f.own)) ≡ true
        by k (inl there) = first_true (flagged (λ g. g.own) (at taken k)) (is_parent h n k && f.own) (kept k (apart_or_same k n) there)
        by k (inr t) = second_true (flagged (λ g. g.own) (at taken k)) (is_parent h n k && f.own) (and_from (is_parent h n k) f.own t f_own)

  pub logged_all : (numbers : List ℕ) (cs : Commits) (count bound : ℕ) → IsWithin h cs count bound → IsLogged h r head numbers cs bound → ((n : ℕ) → at cs n ≡ None) → numbers ≡ reverse (ancestors r head)
  unfolding ancestors
  logged_all numbers cs count bound range s empty =
      let most = range.high in
      let high : bound ≤ end_of h = omega (arith, most) in
      let all = found_all (λ a. is_ancestor r a head) (end_of h) h.floor bound range.low high (λ k less. is_false (is_ancestor r k head) (λ t. left k less (of_test h r shows first k head t))) in
      let size : end_of h - h.floor ≡ length h.parents = omega arith in
      s.found ∙ ap reverse (all ∙ (ap (λ m. filter (λ a. is_ancestor r a head) (range_with_len h.floor m)) size ∙ numbers_retained h r shows first (λ a. is_ancestor r a head)))
    where
      left : (a : ℕ) → a < bound → Ancestor r a head → ⊥
      left a less up =
          let (k, t, _) = s.own.complete a less up in
          no_true (flagged (λ f. f.own) (at cs k)) (ap (flagged (λ f. f.own)) (empty k)) t
