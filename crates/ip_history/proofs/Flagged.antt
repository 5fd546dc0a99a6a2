-- The flags of each commit, as commits are put in, taken out, and pass to their parents.
use Rattle.std.proofs.Common.{◌≡◌, ◌≢◌, ◌⊎◌, inl, inr, ℕ, ◌+◌, ◌-◌, ◌<◌, ◌≤◌, List, [], ◌∷◌, length, take, refl, sym, ap, subst, ◌∙◌, Bool, true, false, cond, arith}
use Rattle.std.proofs.lemmas.Bool.Decides.{nat_tests}
use Rattle.std.proofs.lemmas.List.Folds.{list_any_more}
use Rattle.std.specs.Prelude.{◌||◌, ◌&&◌, ◌==◌, slice_index_or, nat_le, Option, Some, None, IsSome}
use Rattle.ip_history.specs.History.{History, HasParentsFirst}
use Rattle.ip_history.specs.Frontier.{Commits, at, unflagged, known, joined, flagged, is_parent, Passes, IsPut}
use Rattle.ip_history.specs.declared.frontier.Flags.{Flags}
use Rattle.ip_history.proofs.Lists.{no_true, both_first, both_second, number_same, has, has_to}

-- ---- one flag

-- joined flags are set where either is, and of no commit that isn't there
pub record IsFlag (K : Flags → Bool) : Type 0 where
  pub joins : (e f : Flags) → K (joined e f) ≡ (K e || K f)
  pub clear : K unflagged ≡ false

pub or_true : (b c : Bool) → (b || c) ≡ true → (b ≡ true) ⊎ (c ≡ true)
or_true true c h = inl refl
or_true false c h = inr h

pub first_true : (b c : Bool) → b ≡ true → (b || c) ≡ true
first_true true c h = refl
first_true false c h = absurd (no_true false refl h)

pub second_true : (b c : Bool) → c ≡ true → (b || c) ≡ true
second_true true c h = refl
second_true false c h = h

pub flagged_joined : (K : Flags → Bool) → IsFlag K → (o : Option Flags) (f : Flags) → flagged K (Some (joined (known o) f)) ≡ (flagged K o || K f)
flagged_joined K is None f = is.joins unflagged f ∙ ap (λ b. b || K f) is.clear
flagged_joined K is (Some e) f = is.joins e f

pub flagged_there : (K : Flags → Bool) (o : Option Flags) → flagged K o ≡ true → IsSome o
flagged_there K None h = absurd (no_true false refl h)
flagged_there K (Some f) h = refl

-- ---- a commit that is put in

pub apart_or_same : (m n : ℕ) → (m ≡ n) ⊎ (m ≢ n)
apart_or_same m n = grind arith

pub put_flag : (K : Flags → Bool) → IsFlag K → (old new : Commits) (n : ℕ) (f : Flags) → IsPut old new n (Some (joined (known (at old n)) f)) → (m : ℕ) → flagged K (at new m) ≡ (flagged K (at old m) || (n == m && K f))
put_flag K joins old new n f put m = by (apart_or_same m n)
  where
    or_false : (b : Bool) → b ≡ (b || false)
    or_false true = refl
    or_false false = refl

    by : (m ≡ n) ⊎ (m ≢ n) → flagged K (at new m) ≡ (flagged K (at old m) || (n == m && K f))
    by (inl e) =
        let same : flagged K (at new n) ≡ (flagged K (at old n) || K f) = ap (flagged K) put.here ∙ flagged_joined K joins (at old n) f in
        let is : (n == m) ≡ true = number_same n m (sym e) in
        rw is (subst (λ k. flagged K (at new k) ≡ (flagged K (at old k) || K f)) (sym e) same)
    by (inr ne) =
        let is : (n == m) ≡ false = grind arith in
        rw is (ap (flagged K) (put.others m ne) ∙ or_false (flagged K (at old m)))

pub put_there : (old new : Commits) (n : ℕ) (o : Option Flags) → IsPut old new n o → (m : ℕ) → IsSome (at new m) → (n ≡ m) ⊎ IsSome (at old m)
put_there old new n o put m there = by (apart_or_same m n)
  where
    by : (m ≡ n) ⊎ (m ≢ n) → (n ≡ m) ⊎ IsSome (at old m)
    by (inl e) = inl (sym e)
    by (inr ne) = inr (subst IsSome (put.others m ne) there)

-- ---- the parents

-- the first i of them have got the flags
abbrev pub Passed : ℕ → List ℕ → ℕ → Flags → Commits → Commits → Type 0
Passed floor ps i f old new = (m : ℕ) → at new m ≡ cond (nat_le floor m && has (take i ps) m) (Some (joined (known (at old m)) f)) (at old m)

none_taken : (ps : List ℕ) (m : ℕ) → has (take 0 ps) m ≡ false
none_taken [] m = refl
none_taken (p ∷ ps) m = refl

and_false : (b c : Bool) → c ≡ false → (b && c) ≡ false
and_false true c h = h
and_false false c h = refl

pub passed_none : (floor : ℕ) (ps : List ℕ) (f : Flags) (old : Commits) → Passed floor ps 0 f old old
passed_none floor ps f old m = rw (and_false (nat_le floor m) (has (take 0 ps) m) (none_taken ps m)) refl

more : (ps : List ℕ) (i p m : ℕ) → i < length ps → p ≡ slice_index_or ps i p → has (take (i + 1) ps) m ≡ (has (take i ps) m || (p == m))
more ps i p m low is = list_any_more (λ k. k == m) ps i p low ∙ ap (λ q. has (take i ps) m || (q == m)) (sym is)

or_no : (b c : Bool) → c ≡ false → (b || c) ≡ b
or_no true c h = refl
or_no false c h = h

-- no other number's test changes
other : (ps : List ℕ) (i p m : ℕ) → i < length ps → p ≡ slice_index_or ps i p → m ≢ p → has (take (i + 1) ps) m ≡ has (take i ps) m
other ps i p m low is ne = let f : (p == m) ≡ false = grind arith in more ps i p m low is ∙ or_no (has (take i ps) m) (p == m) f

pub passed_below : (floor : ℕ) (ps : List ℕ) (i p : ℕ) (f : Flags) (old new : Commits) → i < length ps → p ≡ slice_index_or ps i p → p < floor → Passed floor ps i f old new → Passed floor ps (i + 1) f old new
passed_below floor ps i p f old new low is less s m = s m ∙ ap (λ b. cond b (Some (joined (known (at old m)) f)) (at old m)) (by (apart_or_same m p))
  where
    by : (m ≡ p) ⊎ (m ≢ p) → (nat_le floor m && has (take i ps) m) ≡ (nat_le floor m && has (take (i + 1) ps) m)
    by (inl e) =
        let out : nat_le floor m ≡ false = grind (arith, nat_tests) in
        rw out refl
    by (inr ne) = ap (λ b. nat_le floor m && b) (sym (other ps i p m low is ne))

-- flags that are joined twice are joined
twice : (e f : Flags) → joined (joined e f) f ≡ joined e f
twice e f = made ((e.own || f.own) || f.own) ((e.listed || f.listed) || f.listed) ((e.stale || f.stale) || f.stale) (e.own || f.own) (e.listed || f.listed) (e.stale || f.stale) (same e.own f.own) (same e.listed f.listed) (same e.stale f.stale)
  where
    made : (a b c x y z : Bool) → a ≡ x → b ≡ y → c ≡ z → ◌≡◌ {A = Flags} (record { own = a; listed = b; stale = c }) (record { own = x; listed = y; stale = z })
    made a b c x y z d e f = rw (d, e, f) refl

    same : (b c : Bool) → ((b || c) || c) ≡ (b || c)
    same true c = refl
    same false true = refl
    same false false = refl

pub passed_one : (floor : ℕ) (ps : List ℕ) (i p : ℕ) (f : Flags) (old now new : Commits) → i < length ps → p ≡ slice_index_or ps i p → floor ≤ p → IsPut now new p (Some (joined (known (at now p)) f)) → Passed floor ps i f old now → Passed floor ps (i + 1) f old new
passed_one floor ps i p f old now new low is least put s m = by (apart_or_same m p)
  where
    again : (b : Bool) → at now p ≡ cond b (Some (joined (known (at old p)) f)) (at old p) → Some (joined (known (at now p)) f) ≡ Some (joined (known (at old p)) f)
    again true e = ap (λ o. Some (joined (known o) f)) e ∙ ap Some (twice (known (at old p)) f)
    again false e = ap (λ o. Some (joined (known o) f)) e

    by : (m ≡ p) ⊎ (m ≢ p) → at new m ≡ cond (nat_le floor m && has (take (i + 1) ps) m) (Some (joined (known (at old m)) f)) (at old m)
    by (inl e) =
        let within : nat_le floor p ≡ true = grind (arith, nat_tests) in
        let there : has (take (i + 1) ps) p ≡ true = more ps i p p low is ∙ second_true (has (take i ps) p) (p == p) (number_same p p refl) in
        let whole : at new p ≡ cond (nat_le floor p && has (take (i + 1) ps) p) (Some (joined (known (at old p)) f)) (at old p) = rw (within, there) (put.here ∙ again (nat_le floor p && has (take i ps) p) (s p)) in
        subst (λ k. at new k ≡ cond (nat_le floor k && has (take (i + 1) ps) k) (Some (joined (known (at old k)) f)) (at old k)) (sym e) whole
    by (inr ne) = put.others m ne ∙ (s m ∙ ap (λ b. cond (nat_le floor m && b) (Some (joined (known (at old m)) f)) (at old m)) (sym (other ps i p m low is ne)))

-- what is there afterwards was there, or is a parent
pub passes_there : (h : History) (n : ℕ) (f : Flags) (old new : Commits) → Passes h n f old new → (m : ℕ) → IsSome (at new m) → IsSome (at old m) ⊎ (is_parent h n m ≡ true)
passes_there h n f old new s m there = by (is_parent h n m) (s m)
  where
    by : (b : Bool) → at new m ≡ cond b (Some (joined (known (at old m)) f)) (at old m) → IsSome (at old m) ⊎ (b ≡ true)
    by true e = inr refl
    by false e = inl (subst IsSome e there)

pub passes_flag : (K : Flags → Bool) → IsFlag K → (h : History) (n : ℕ) (f : Flags) (old new : Commits) → Passes h n f old new → (m : ℕ) → flagged K (at new m) ≡ (flagged K (at old m) || (is_parent h n m && K f))
passes_flag K joins h n f old new s m = by (is_parent h n m) (s m)
  where
    or_false : (b : Bool) → b ≡ (b || false)
    or_false true = refl
    or_false false = refl

    by : (b : Bool) → at new m ≡ cond b (Some (joined (known (at old m)) f)) (at old m) → flagged K (at new m) ≡ (flagged K (at old m) || (b && K f))
    by true e = ap (flagged K) e ∙ flagged_joined K joins (at old m) f
    by false e = ap (flagged K) e ∙ or_false (flagged K (at old m))

-- a retained parent is between the floor and its child
pub parent_within : (h : History) → HasParentsFirst h → (n m : ℕ) → h.floor ≤ n → is_parent h n m ≡ true → (h.floor ≤ m) × (m < n)
parent_within h first n m low t =
    let least = both_first (nat_le h.floor m) (has (slice_index_or h.parents (n - h.floor) []) m) t in
    let in_list = both_second (nat_le h.floor m) (has (slice_index_or h.parents (n - h.floor) []) m) t in
    let less = first (n - h.floor) m (has_to (slice_index_or h.parents (n - h.floor) []) m in_list) in
    (grind (arith, nat_tests), omega (arith, low, less))
