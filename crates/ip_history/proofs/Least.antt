-- How far a walk to the least common ancestors has come, and that nothing is missed where it ends.
use Rattle.std.proofs.Common.{◌≡◌, ◌⊎◌, inl, inr, ℕ, ◌+◌, ◌-◌, ◌<◌, ◌≤◌, List, [], ◌∷◌, ◌++◌, length, refl, sym, ap, subst, ◌∙◌, Bool, true, false, cond, arith}
use Rattle.std.specs.Prelude.{◌&&◌, not, Contains, filter, reverse}
use Rattle.std.specs.List.{range_with_len, list_any}
use Rattle.std.proofs.lemmas.List.{reverse-reverse}
use Rattle.std.proofs.lemmas.Bool.{and_from}
use Rattle.ip_spec.specs.Repository.{Repository}
use Rattle.ip_spec.specs.History.{parents_at, Ancestor, itself, of_parent, is_common, is_proper_ancestor, retained, common}
use Rattle.ip_history.specs.History.{History, HasParentsFirst, Holds, Shows, AboveOneOf}
use Rattle.ip_history.specs.Frontier.{Commits, at, flagged, passed, is_least, Passes, IsTaken, IsHeads, IsSettled}
use Rattle.ip_history.specs.declared.frontier.Flags.{Flags}
use Rattle.ip_history.proofs.Lists.{no_true, both_first, both_second, same_test, same_number, number_same, has_from, has_to, filter_filter}
use Rattle.ip_history.proofs.Parents.{through, parent_through}
use Rattle.ip_history.proofs.Walk.{IsFollowed, follow, not_between, has_flag, flag_says, not_above}
use Rattle.ip_history.proofs.Found.{from, none_found, found_more, found_all}
use Rattle.ip_history.proofs.Results.{is_false, was_false, not_false, numbers_retained, is_result, result_own, result_listed, no_result, result_or}
use Rattle.ip_history.proofs.Logged.{IsWithin, end_of, within_taken}

-- an ancestor of a common one that is not below the bound
abbrev pub IsStale : Repository → List ℕ → ℕ → ℕ → ℕ → Type 0
IsStale r ns head bound a = (c : ℕ) × (bound ≤ c) × Ancestor r c head × AboveOneOf r ns c × Ancestor r a c

module _ (h : History) (r : Repository) (shows : Shows h r) (first : HasParentsFirst h) (ns : List ℕ) (head : ℕ) (held : Holds h head) where
  abbrev test : ℕ → Bool
  test = is_result h r shows first ns head held

  pub record IsMet (least : List ℕ) (cs : Commits) (bound : ℕ) : Type 0 where
    pub own : IsFollowed r (λ f. f.own) cs bound (λ a. Ancestor r a head)
    pub listed : IsFollowed r (λ f. f.listed) cs bound (AboveOneOf r ns)
    pub stale : IsFollowed r (λ f. f.stale) cs bound (IsStale r ns head bound)
    pub found : least ≡ reverse (from test (end_of h) bound)

  pub met_none : (cs : Commits) → IsHeads ns head cs → IsMet [] cs (end_of h)
  met_none cs s = record {
    own = record { sound = λ k t. subst (λ m. Ancestor r m head) (same_number head k (sym (s.own k) ∙ t)) itself; complete = λ a _ up. (head, s.own head ∙ number_same head head refl, up) };
    listed = record { sound = λ k t. (k, has_to ns k (sym (s.listed k) ∙ t), itself); complete = λ a _ (m, c, up). (m, s.listed m ∙ has_from ns m c, up) };
    stale = record { sound = λ k t. absurd (no_true (flagged (λ f. f.stale) (at cs k)) (s.stale k) t); complete = λ a _ (c, high, own, _, _). none_above c high own };
    found = none_found test (end_of h);
  }
    where
      none_above : {X : Type 0} (c : ℕ) → end_of h ≤ c → Ancestor r c head → X
      none_above c high own =
          let low = not_above h r shows first c own in
          let top = held.1 in
          absurd (omega (arith, high, low, top))

  module _ (least : List ℕ) (cs taken new : Commits) (count bound n : ℕ) (f : Flags) (range : IsWithin h cs count bound) (take : IsTaken cs taken n f) (pass : Passes h n (passed f) taken new) (s : IsMet least cs bound) where
    low : n < bound
    low = (within_taken h cs taken count bound n f range take).1

    floor : h.floor ≤ n
    floor = (within_taken h cs taken count bound n f range take).0

    own_flag : Ancestor r n head → f.own ≡ true
    own_flag = has_flag h r shows first cs taken new bound n f (passed f) low floor take pass (λ g. g.own) (λ a. Ancestor r a head) s.own

    listed_flag : AboveOneOf r ns n → f.listed ≡ true
    listed_flag = has_flag h r shows first cs taken new bound n f (passed f) low floor take pass (λ g. g.listed) (AboveOneOf r ns) s.listed

    stale_flag : IsStale r ns head bound n → f.stale ≡ true
    stale_flag = has_flag h r shows first cs taken new bound n f (passed f) low floor take pass (λ g. g.stale) (IsStale r ns head bound) s.stale

    is_own : f.own ≡ true → Ancestor r n head
    is_own = flag_says h r shows first cs taken new bound n f (passed f) low floor take pass (λ g. g.own) (λ a. Ancestor r a head) s.own

    is_listed : f.listed ≡ true → AboveOneOf r ns n
    is_listed = flag_says h r shows first cs taken new bound n f (passed f) low floor take pass (λ g. g.listed) (AboveOneOf r ns) s.listed

    is_stale : f.stale ≡ true → IsStale r ns head bound n
    is_stale = flag_says h r shows first cs taken new bound n f (passed f) low floor take pass (λ g. g.stale) (IsStale r ns head bound) s.stale

    -- no commit above this one and below the bound is an ancestor of the head
    none_open : (a : ℕ) → n < a → a < bound → Ancestor r a head → ⊥
    none_open = not_between h r shows first cs taken new bound n f (passed f) low floor take pass (λ g. g.own) (λ a. Ancestor r a head) s.own

    parent_above : (p : ℕ) → Contains (parents_at r n) p → AboveOneOf r ns n → AboveOneOf r ns p
    parent_above p c (m, in_list, up) = (m, in_list, parent_through r p n m c up)

    -- what passes the stale flag is common
    stale_both : f.stale ≡ true → (f.own && f.listed) ≡ true
    stale_both t =
        let (c, high, own, (m, in_list, up), below) = is_stale t in
        and_from f.own f.listed (own_flag (through r n c below own)) (listed_flag (m, in_list, through r n c below up))

    stale_keeps : (a : ℕ) → IsStale r ns head bound a → IsStale r ns head n a
    stale_keeps a (c, high, own, listed, up) = let less = low in (c, omega (arith, high, less), own, listed, up)

    stale_parent : (p : ℕ) → (f.own && f.listed) ≡ true → Contains (parents_at r n) p → IsStale r ns head n p
    stale_parent p t c = (n, omega arith, is_own (both_first f.own f.listed t), is_listed (both_second f.own f.listed t), of_parent p c itself)

    stale_splits : (a : ℕ) → a < n → IsStale r ns head n a → IsStale r ns head bound a ⊎ (((f.own && f.listed) ≡ true) × Ancestor r a n)
    stale_splits a less (c, high, own, listed, up) = by (place c)
      where
        place : (c : ℕ) → (bound ≤ c) ⊎ ((c ≡ n) ⊎ ((n < c) × (c < bound)) ⊎ (c < n))
        place c = by_order (order bound c) (order c n) (order n c)
          where
            order : (a b : ℕ) → (a ≤ b) ⊎ (b < a)
            order a b = grind arith

            by_order : (bound ≤ c) ⊎ (c < bound) → (c ≤ n) ⊎ (n < c) → (n ≤ c) ⊎ (c < n) → (bound ≤ c) ⊎ ((c ≡ n) ⊎ ((n < c) × (c < bound)) ⊎ (c < n))
            by_order (inl a) y z = inl a
            by_order (inr a) (inr b) z = inr (inr (inl (b, a)))
            by_order (inr a) (inl b) (inl d) = inr (inl (omega (arith, b, d)))
            by_order (inr a) (inl b) (inr d) = inr (inr (inr d))

        by : (bound ≤ c) ⊎ ((c ≡ n) ⊎ ((n < c) × (c < bound)) ⊎ (c < n)) → IsStale r ns head bound a ⊎ (((f.own && f.listed) ≡ true) × Ancestor r a n)
        by (inl far) = inl (c, far, own, listed, up)
        by (inr (inl e)) = inr (and_from f.own f.listed (own_flag (subst (λ m. Ancestor r m head) e own)) (listed_flag (subst (AboveOneOf r ns) e listed)), subst (Ancestor r a) e up)
        by (inr (inr (inl (more, under)))) = absurd (none_open c more under own)
        by (inr (inr (inr under))) = absurd (omega (arith, under, high))

    -- the flags tell whether it is a result
    least_test : test n ≡ is_least f
    least_test = same_test (test n) (is_least f) there back
      where
        there : test n ≡ true → is_least f ≡ true
        there t =
            let own = own_flag (result_own h r shows first ns head held n t) in
            let listed = listed_flag (result_listed h r shows first ns head held n t) in
            let fresh : f.stale ≡ false = is_false f.stale (λ old. by (is_stale old)) in
            and_from (f.own && f.listed) (not f.stale) (and_from f.own f.listed own listed) (not_false f.stale fresh)
          where
            by : IsStale r ns head bound n → ⊥
            by (c, high, own, listed, up) =
                let bottom = range.low in
                let less = low in
                no_result h r shows first ns head held n c (omega (arith, high, less)) (omega (arith, high, bottom)) own listed up t

        back : is_least f ≡ true → test n ≡ true
        back t = by (result_or h r shows first ns head held n (is_own (both_first f.own f.listed is_both)) (is_listed (both_second f.own f.listed is_both)))
          where
            is_both : (f.own && f.listed) ≡ true
            is_both = both_first (f.own && f.listed) (not f.stale) t

            fresh : f.stale ≡ false
            fresh = was_false f.stale (both_second (f.own && f.listed) (not f.stale) t)

            order : (c : ℕ) → (bound ≤ c) ⊎ (c < bound)
            order c = grind arith

            by : (test n ≡ true) ⊎ ((c : ℕ) × (n < c) × Ancestor r c head × AboveOneOf r ns c × Ancestor r n c) → test n ≡ true
            by (inl is) = is
            by (inr (c, more, own, listed, up)) = pick (order c)
              where
                pick : (bound ≤ c) ⊎ (c < bound) → test n ≡ true
                pick (inl far) = no_true f.stale fresh (stale_flag (c, far, own, listed, up))
                pick (inr under) = absurd (none_open c more under own)

    pub met_more : IsMet (least ++ cond (is_least f) (n ∷ []) []) new n
    met_more = record {
      own = follow h r shows first cs taken new bound n f (passed f) low floor take pass (λ g. g.own) (record { joins = λ e g. refl; clear = refl }) (λ a. Ancestor r a head) (λ a. Ancestor r a head) s.own (λ t. t) (λ a up. up) (λ p t c. parent_through r p n head c (is_own t)) (λ a _ up. inl up);
      listed = follow h r shows first cs taken new bound n f (passed f) low floor take pass (λ g. g.listed) (record { joins = λ e g. refl; clear = refl }) (AboveOneOf r ns) (AboveOneOf r ns) s.listed (λ t. t) (λ a up. up) (λ p t c. parent_above p c (is_listed t)) (λ a _ up. inl up);
      stale = follow h r shows first cs taken new bound n f (passed f) low floor take pass (λ g. g.stale) (record { joins = λ e g. refl; clear = refl }) (IsStale r ns head bound) (IsStale r ns head n) s.stale stale_both stale_keeps stale_parent stale_splits;
      found = ap (λ b. least ++ cond b (n ∷ []) []) (sym least_test) ∙ found_more test (end_of h) least bound n low high (λ k more less. is_false (test k) (λ t. none_open k more less (result_own h r shows first ns head held k t))) s.found;
    }
      where
        most : count + bound ≤ end_of h
        most = range.high

        high : bound ≤ end_of h
        high = omega (arith, most)

  -- a result below the bound is an ancestor of an open commit of the one commit, and of one of the list; where one of the two is stale, so is
  -- the result, which then is none
  pub met_all : (least : List ℕ) (cs : Commits) (count bound : ℕ) → IsWithin h cs count bound → IsMet least cs bound → IsSettled cs → reverse least ≡ common r ns head
  unfolding common
  met_all least cs count bound range s done =
      let most = range.high in
      let high : bound ≤ end_of h = omega (arith, most) in
      let all = found_all test (end_of h) h.floor bound range.low high (λ k less. is_false (test k) (λ t. left k less t)) in
      let size : end_of h - h.floor ≡ length h.parents = omega arith in
      let twice : filter (λ a. not (list_any (is_proper_ancestor r a) (filter (is_common r ns head) (retained r)))) (filter (is_common r ns head) (retained r)) ≡ filter test (retained r) = filter_filter (λ a. not (list_any (is_proper_ancestor r a) (filter (is_common r ns head) (retained r)))) (is_common r ns head) (retained r) in
      ap reverse s.found ∙ (reverse-reverse (from test (end_of h) bound) ∙ (all ∙ (ap (λ m. filter test (range_with_len h.floor m)) size ∙ (numbers_retained h r shows first test ∙ sym twice))))
    where
      -- an ancestor of a stale one is no result
      below : (a k : ℕ) → a < bound → test a ≡ true → Ancestor r a k → flagged (λ f. f.stale) (at cs k) ≡ true → ⊥
      below a k less t up stale = go (s.stale.sound k stale)
        where
          go : IsStale r ns head bound k → ⊥
          go (c, high, own, listed, k_up) =
              let bottom = range.low in
              no_result h r shows first ns head held a c (omega (arith, less, high)) (omega (arith, high, bottom)) own listed (through r a k up k_up) t

      left : (a : ℕ) → a < bound → test a ≡ true → ⊥
      left a less t = by done
        where
          by : IsSettled cs → ⊥
          by (inl none) = let (k, on, up) = s.own.complete a less (result_own h r shows first ns head held a t) in below a k less t up (none k on)
          by (inr none) = let (k, on, up) = s.listed.complete a less (result_listed h r shows first ns head held a t) in below a k less t up (none k on)
