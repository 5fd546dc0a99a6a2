-- The history of a store: as its records tell it, with one commit more, and what its table shows of the repository.
--     known      the numbers of parents that come before a number.      record_enters      those of a record that the audit took
--     after_record, first_after      the history after a record
--     history_committed, may_enter      the history after a commit
--     shows_of      what the table shows
--     ancestors_retained, common_retained      what is told of are retained commits
use Rattle.std.proofs.Common.{◌≡◌, ℕ, zero, suc, ◌+◌, ◌-◌, ◌^◌, ◌<◌, ◌≤◌, Bool, true, false, cond, List, [], ◌∷◌, ◌++◌, map, length, refl, sym, ◌∙◌, ap, subst, arith, get_or, inl, inr}
use Rattle.std.specs.Prelude.{◌&&◌, ◌==◌, Option, Some, None, All, Contains, IsTrue, filter, filter_map, reverse, nat_le, nat_lt, option_map, slice_get, slice_index_or, unwrap_or, if◌then◌else◌}
use Rattle.std.specs.List.{AllByRecursion, cons_option}
use Rattle.std.proofs.lemmas.Bool.Decides.{nat_tests}
use Rattle.std.proofs.lemmas.List.{length-map, map-append, append-nil, length-reverse, get_or-reverse}
use Rattle.std.proofs.lemmas.List.FromFn.{length-range_with_len, get_or-range_with_len}
use Rattle.std.proofs.lemmas.List.Elements.{recursion_from_All, All-from_recursion, All-filter, filter_map-append}
use Rattle.ip_spec.specs.declared.record.Record.{Record}
use Rattle.ip_spec.specs.declared.record.CommitRecord.{CommitRecord}
use Rattle.ip_spec.specs.declared.record.Parent.{Parent}
use Rattle.ip_spec.specs.Record.{Fits}
use Rattle.ip_spec.specs.Path.{Bytes}
use Rattle.ip_spec.specs.TreeAt.{Records}
use Rattle.ip_spec.specs.Repository.{Repository, Commit, CommitParent, commit_at, is_retained, next}
use Rattle.ip_spec.specs.History.{parents_at, retained, retained_number, ancestors, common}
use Rattle.ip_spec.specs.Step.{as_parent, with_commit}
use Rattle.ip_image.specs.Standing.{RecordFits, terms_of, outside, commit_of, commits_in, parent_of}
use Rattle.ip_history.specs.History.{History, HasParentsFirst, Shows, listed, history_of}
use Rattle.ip_history.proofs.Parents.{first_push}
use Rattle.ip_tables.specs.Histories.{numbers_in, with_parents, MayEnter, history_in, history_after, RecordEnters}
use Rattle.ip_image.specs.declared.slot.Slot.{Slot}
use Rattle.ip_held.specs.declared.held.Held.{Held}
use Rattle.ip_held.specs.Held.{IsOf}

-- ---- the parents of a commit record

known : (p : Parent) (n : ℕ) → p.number < n → n < 2 ^ 64 → (parent_of p).number ≡ Some p.number
known p n below small = by (p.number == outside) (other p.number below)
  where
    other : (m : ℕ) → m < n → (m == outside) ≡ false
    other m low = grind arith

    by : (b : Bool) → b ≡ false → (if b then None else Some p.number) ≡ Some p.number
    by true e = absurd (cc (e))
    by false e = refl

all_known : (ps : List Parent) (n : ℕ) → n < 2 ^ 64 → AllByRecursion (λ (p : Parent). p.number < n) ps → numbers_in ps ≡ map (λ (p : Parent). p.number) ps
all_known [] n small below = refl
all_known (p ∷ ps) n small below =
    ap (λ (o : Option ℕ). cons_option o (numbers_in ps)) (known p n below.0 small) ∙ ap (λ (ns : List ℕ). p.number ∷ ns) (all_known ps n small below.1)

-- of a record that may enter
pub are_known : (ps : List Parent) (n : ℕ) → n < 2 ^ 64 → All (λ (p : Parent). p.number < n) ps → numbers_in ps ≡ map (λ (p : Parent). p.number) ps
are_known ps n small below = all_known ps n small (recursion_from_All (λ (p : Parent). p.number < n) ps below)

below_mapped : (ps : List Parent) (n : ℕ) → AllByRecursion (λ (p : Parent). p.number < n) ps → AllByRecursion (λ (m : ℕ). m < n) (map (λ (p : Parent). p.number) ps)
below_mapped [] n below = tt
below_mapped (p ∷ ps) n below = (below.0, below_mapped ps n below.1)

pub are_below : (ps : List Parent) (n : ℕ) → All (λ (p : Parent). p.number < n) ps → All (λ (m : ℕ). m < n) (map (λ (p : Parent). p.number) ps)
are_below ps n below = All-from_recursion (λ (m : ℕ). m < n) (map (λ (p : Parent). p.number) ps) (below_mapped ps n (recursion_from_All (λ (p : Parent). p.number < n) ps below))

pub record_enters : (s : Slot) (before : Records) (at version : ℕ) (r : Record) (h : History) → h ≡ history_in s.floor before → Fits version r → RecordFits (terms_of s) before at r → RecordEnters h r
record_enters s before at version (Record.Commit c) h is bounds fits =
    subst (λ (g : History). RecordEnters g (Record.Commit c)) (sym is) (
      (let n = fits.number in let small = bounds.fields.number in omega (arith, n, small, size)),
      λ k d l. elim (fits.earlier k d l) [
        | inl low ↦ (let n = fits.number in omega (arith, n, low, size))
        | inr none ↦ absurd (cc (none.0))
      ],
    )
  where
    size : length (history_in s.floor before).parents ≡ length (commits_in before)
    size = length-map (commits_in before) (λ (c : CommitRecord). numbers_in c.parents)
record_enters s before at version (Record.Contents bytes) h is bounds fits = tt
record_enters s before at version (Record.Leaf entries) h is bounds fits = tt
record_enters s before at version (Record.Inode depth children) h is bounds fits = tt
record_enters s before at version (Record.BranchSet number name) h is bounds fits = tt
record_enters s before at version (Record.TagSet number name) h is bounds fits = tt
record_enters s before at version (Record.BranchRemove name) h is bounds fits = tt
record_enters s before at version (Record.TagRemove name) h is bounds fits = tt
record_enters s before at version (Record.BranchTable rows) h is bounds fits = tt
record_enters s before at version (Record.TagTable rows) h is bounds fits = tt

-- ---- the history of records

commits_push : (before : Records) (x : ℕ × Record) → commits_in (before ++ x ∷ []) ≡ commits_in before ++ commits_in (x ∷ [])
commits_push before x = filter_map-append commit_of before (x ∷ [])

more : (floor : ℕ) (before : Records) (x : ℕ × Record) → history_in floor (before ++ x ∷ []) ≡ record { floor = floor; parents = map (λ (c : CommitRecord). numbers_in c.parents) (commits_in before) ++ map (λ (c : CommitRecord). numbers_in c.parents) (commits_in (x ∷ [])) }
more floor before x =
    ap (λ (ns : List (List ℕ)). record { floor = floor; parents = ns }) (ap (λ (cs : List CommitRecord). map (λ (c : CommitRecord). numbers_in c.parents) cs) (commits_push before x)
    ∙ map-append (λ (c : CommitRecord). numbers_in c.parents) (commits_in before) (commits_in (x ∷ [])))

none_more : (floor : ℕ) (before : Records) (x : ℕ × Record) → commits_in (x ∷ []) ≡ [] → history_in floor before ≡ history_in floor (before ++ x ∷ [])
none_more floor before x none =
    sym (more floor before x ∙ ap (λ (cs : List CommitRecord). record { floor = floor; parents = map (λ (c : CommitRecord). numbers_in c.parents) (commits_in before) ++ map (λ (c : CommitRecord). numbers_in c.parents) cs }) none
    ∙ ap (λ (ns : List (List ℕ)). record { floor = floor; parents = ns }) (append-nil (map (λ (c : CommitRecord). numbers_in c.parents) (commits_in before))))

pub after_record : (floor : ℕ) (before : Records) (at : ℕ) (r : Record) → history_after (history_in floor before) r ≡ history_in floor (before ++ (at, r) ∷ [])
after_record floor before at (Record.Commit c) = sym (more floor before (at, Record.Commit c))
after_record floor before at (Record.Contents bytes) = none_more floor before (at, Record.Contents bytes) refl
after_record floor before at (Record.Leaf entries) = none_more floor before (at, Record.Leaf entries) refl
after_record floor before at (Record.Inode depth children) = none_more floor before (at, Record.Inode depth children) refl
after_record floor before at (Record.BranchSet number name) = none_more floor before (at, Record.BranchSet number name) refl
after_record floor before at (Record.TagSet number name) = none_more floor before (at, Record.TagSet number name) refl
after_record floor before at (Record.BranchRemove name) = none_more floor before (at, Record.BranchRemove name) refl
after_record floor before at (Record.TagRemove name) = none_more floor before (at, Record.TagRemove name) refl
after_record floor before at (Record.BranchTable rows) = none_more floor before (at, Record.BranchTable rows) refl
after_record floor before at (Record.TagTable rows) = none_more floor before (at, Record.TagTable rows) refl

pub first_after : (h : History) (r : Record) → HasParentsFirst h → RecordEnters h r → HasParentsFirst (history_after h r)
first_after h (Record.Commit c) first enters =
    first_push h first (numbers_in c.parents)
    (subst (All (λ (m : ℕ). m < h.floor + length h.parents)) (sym (are_known c.parents (h.floor + length h.parents) enters.0 enters.1)) (are_below c.parents (h.floor + length h.parents) enters.1))
first_after h (Record.Contents bytes) first enters = first
first_after h (Record.Leaf entries) first enters = first
first_after h (Record.Inode depth children) first enters = first
first_after h (Record.BranchSet number name) first enters = first
first_after h (Record.TagSet number name) first enters = first
first_after h (Record.BranchRemove name) first enters = first
first_after h (Record.TagRemove name) first enters = first
first_after h (Record.BranchTable rows) first enters = first
first_after h (Record.TagTable rows) first enters = first

-- ---- a commit

known_parents : (r : Repository) (ns : List ℕ) → filter_map (λ (p : CommitParent). p.number) (map (as_parent r) ns) ≡ ns
known_parents r [] = refl
known_parents r (n ∷ ns) = ap (λ (ms : List ℕ). n ∷ ms) (known_parents r ns)

pub history_committed : (r : Repository) (c : Commit) (parents : List ℕ) (branch : Bytes) → c.parents ≡ map (as_parent r) parents → history_of (with_commit r c branch) ≡ with_parents (history_of r) parents
history_committed r c parents branch from =
    ap (λ (ns : List (List ℕ)). record { floor = r.floor; parents = ns }) (map-append (λ (c : Commit). filter_map (λ (p : CommitParent). p.number) c.parents) r.commits (c ∷ [])
    ∙ ap (λ (ns : List ℕ). (history_of r).parents ++ ns ∷ []) (ap (filter_map (λ (p : CommitParent). p.number)) from ∙ known_parents r parents))

module _ (store : Held) (r : Repository) (of : IsOf store r) where
  history_size : length store.history.parents ≡ length r.commits
  history_size = ap (λ (h : History). length h.parents) (sym of.history) ∙ length-map r.commits (λ (c : Commit). filter_map (λ (p : CommitParent). p.number) c.parents)

  history_floor : store.history.floor ≡ r.floor
  history_floor = ap (λ (h : History). h.floor) (sym of.history)

  bounds_of : (low n high : ℕ) → (nat_le low n && nat_lt n high) ≡ true → (low ≤ n) × (n < high)
  bounds_of low n high e = (grind (arith, nat_tests), grind (arith, nat_tests))

  pub may_enter : (parents slice : List ℕ) → slice ≡ parents → All (λ n. IsTrue (is_retained r n)) parents → MayEnter store.history slice
  may_enter parents slice same all =
      let size = history_size in
      let floor = history_floor in
      let next_is = of.next in
      let small = of.slot.next in
      let ends = of.slot.ends in
      subst (MayEnter store.history) (sym same) (
        omega (arith, size, floor, next_is, small, ends),
        λ k d l. (let both = bounds_of r.floor (get_or parents k d) (next r) (all k d l) in omega (arith, both.1, size, floor)),
      )

  -- ---- what the table shows

  pub shows_of : Shows store.history r
  shows_of = subst (λ (h : History). Shows h r) of.history (shown (subst HasParentsFirst (sym of.history) of.parents_first))
    where
      tested : (n m : ℕ) → n < m → nat_lt n m ≡ true
      tested n m l = grind (arith, nat_tests)

      numbers : Commit → List ℕ
      numbers c = filter_map (λ (p : CommitParent). p.number) c.parents

      kept : (ps : List CommitParent) → ((n : ℕ) → Contains (filter_map (λ (p : CommitParent). p.number) ps) n → n < next r) → filter (λ n. nat_le r.floor n) (filter_map (λ (p : CommitParent). p.number) ps) ≡ filter_map (λ (p : CommitParent). retained_number r p.number) ps
      kept [] below = refl
      kept (p ∷ ps) below = by p.number below (kept ps)
        where
          rest : List ℕ
          rest = filter_map (λ (q : CommitParent). q.number) ps

          left : List ℕ
          left = filter_map (λ (q : CommitParent). retained_number r q.number) ps

          by : (number : Option ℕ) → ((n : ℕ) → Contains (cons_option number rest) n → n < next r) → (((n : ℕ) → Contains rest n → n < next r) → filter (λ n. nat_le r.floor n) rest ≡ left) → filter (λ n. nat_le r.floor n) (cons_option number rest) ≡ cons_option (retained_number r number) left
          by None below later = later below
          by (Some n) below later = pick (nat_le r.floor n)
            where
              low : n < next r
              low = below n (0, omega arith, refl)

              less : nat_lt n (next r) ≡ true
              less = tested n (next r) low

              others : filter (λ n. nat_le r.floor n) rest ≡ left
              others = later (λ m c. below m (suc c.0, omega (arith, c.1), c.2))

              pick : (b : Bool) → cond b (n ∷ filter (λ m. nat_le r.floor m) rest) (filter (λ m. nat_le r.floor m) rest) ≡ cons_option (if (b && nat_lt n (next r)) then Some n else None) left
              pick true = rw less (ap (λ (ns : List ℕ). n ∷ ns) others)
              pick false = others

      at_map : (cs : List Commit) (k : ℕ) → k < length cs → (c : Commit) × (slice_get cs k ≡ Some c) × (slice_index_or (map numbers cs) k [] ≡ numbers c)
      at_map [] k low = absurd (omega (arith, low))
      at_map (c ∷ cs) zero low = (c, refl, refl)
      at_map (c ∷ cs) (suc k) low = at_map cs k (omega (arith, low))

      at : HasParentsFirst (history_of r) → (k : ℕ) → k < length r.commits → (c : Commit) × (slice_get r.commits k ≡ Some c) × (slice_index_or (history_of r).parents k [] ≡ numbers c) → listed (history_of r) k ≡ parents_at r (r.floor + k)
      at first k low (c, got, e) =
          let least : nat_le r.floor (r.floor + k) ≡ true = grind (arith, nat_tests) in
          let place : r.floor + k - r.floor ≡ k = omega arith in
          let here : commit_at r (r.floor + k) ≡ Some c = rw least (ap (slice_get r.commits) place ∙ got) in
          let below = λ (n : ℕ). λ (is : Contains (numbers c) n). (let f = first k n (subst (λ (ns : List ℕ). Contains ns n) (sym e) is) in (let g : n < next r = omega (arith, f, low) in g)) in
          ap (filter (λ n. nat_le r.floor n)) e ∙ (kept c.parents below ∙ sym (ap (λ o. filter_map (λ (p : CommitParent). retained_number r p.number) (unwrap_or (option_map (λ d. d.parents) o) [])) here))

      size : length (history_of r).parents ≡ length r.commits
      size = length-map r.commits numbers

      shown : HasParentsFirst (history_of r) → Shows (history_of r) r
      shown first = record { floor = refl; count = size; parents = λ k low. at first k (subst (λ (n : ℕ). k < n) size low) (at_map r.commits k (subst (λ (n : ℕ). k < n) size low)) }

-- ---- what is told of

module _ (r : Repository) where
  abbrev Retained : ℕ → Type 0
  Retained n = IsTrue (is_retained r n)

  numbers_retained : All Retained (retained r)
  numbers_retained k d l =
      let size = length-range_with_len r.floor (length r.commits) in
      let low : k < length r.commits = omega (arith, l, size) in
      subst Retained (sym (get_or-range_with_len r.floor (length r.commits) k d low)) (inside r.floor k (length r.commits) low)
    where
      inside : (floor k count : ℕ) → k < count → (nat_le floor (floor + k) && nat_lt (floor + k) (floor + count)) ≡ true
      inside floor k count low = grind (arith, nat_tests)

  reversed : (ns : List ℕ) → All Retained ns → All Retained (reverse ns)
  reversed ns all k d l =
      let size = length-reverse ns in
      let low : k < length ns = omega (arith, l, size) in
      subst Retained (sym (get_or-reverse ns k d low)) (all (length ns - 1 - k) d (omega (arith, low)))

  pub ancestors_retained : (n : ℕ) → All Retained (reverse (ancestors r n))
  unfolding ancestors
  ancestors_retained n = reversed _ (All-filter _ Retained (retained r) numbers_retained)

  pub common_retained : (ns : List ℕ) (n : ℕ) → All Retained (common r ns n)
  unfolding common
  common_retained ns n = All-filter _ Retained _ (All-filter _ Retained (retained r) numbers_retained)
