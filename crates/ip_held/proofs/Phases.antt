-- What keeps a store's phase, and what works rest on while a collection may give commits up.
--     no_phase, phase_to      of a store that no collection runs over, and of the same fields.      phase_on      behind a durable step
--     retained_from, retained_is      numbers that are retained.      head_retained      a branch is at such a one
--     set_heads, named_heads      no branch comes to lie below the collection's commit
--     there_is, there_none, none_given      a work of which a test says so was not given up
--     removed_above, set_above, ahead_above      a record puts no branch below the collection's commit.      least_above, oldest_above      nor did a work, or its tree, take from one below      stays_least      a merge rests on no commit below it
--     retained_parents, parents_on      the parents of a work that was not given up are retained; and later on too
use Rattle.std.proofs.Common.{◌≡◌, ℕ, ◌<◌, ◌≤◌, Bool, true, false, List, [], ◌∷◌, refl, sym, ap, subst, ◌∙◌, arith, Option, Some, None}
use Rattle.std.specs.Prelude.{Ok, All, fold, IfSome, IsSomeAnd, IsTrue, cond, min, not, nat_le, nat_lt, ◌&&◌, if◌then◌else◌}
use Rattle.std.proofs.lemmas.Bool.Decides.{nat_tests}
use Rattle.std.specs.Cmp.Lexicographic.{nat_list_cmp_total}
use Rattle.std.specs.Ordering.{eq_by_cmp}
use Rattle.ip_spawn.specs.declared.job.Job.{Job}
use Rattle.ip_spec.specs.declared.record.Record.{Record}
use Rattle.ip_spec.specs.declared.reply.Reply.{Reply}
use Rattle.ip_spec.specs.Map.{Map, get, insert, remove, from_entries, get-insert}
use Rattle.ip_spec.specs.Path.{Bytes, bytes_cmp}
use Rattle.ip_spec.specs.Record.{Names}
use Rattle.ip_spec.specs.Repository.{Repository, next, is_retained}
use Rattle.ip_spec.specs.Step.{below, least_with, unless_some}
use Rattle.ip_image.specs.declared.slot.Slot.{Slot}
use Rattle.ip_image.specs.Appending.{MayName}
use Rattle.ip_image.specs.Standing.{names_after}
use Rattle.ip_image.proofs.Renaming.{get_without}
use Rattle.ip_image.proofs.Tables.{made_again}
use Rattle.ip_held.specs.declared.collection.Collection.{Collection}
use Rattle.ip_held.specs.declared.collection.Unswept.{Unswept}
use Rattle.ip_held.specs.Collecting.{IsJobOf, IsPhase, IsPhaseOf, IsAbove, phase_of, not_leaving_in}
use Rattle.ip_held.specs.Held.{IsOf}
use Rattle.ip_held.specs.Work.{AreParents, IsThere}
use Rattle.ip_held.specs.declared.held.Held.{Held}
use Rattle.ip_held.specs.Step.{slot_behind}

pub no_phase : (s : Slot) (r : Repository) (o : Option Collection) → o ≡ None → IsPhaseOf s r o
no_phase s r o none = subst (IsPhaseOf s r) (sym none) tt

pub phase_to : (s t : Slot) (r : Repository) (o p : Option Collection) → t ≡ s → p ≡ o → IsPhaseOf s r o → IsPhaseOf t r p
phase_to s t r o p slot same is = subst (λ (u : Slot). IsPhaseOf u r p) (sym slot) (subst (IsPhaseOf s r) (sym same) is)

-- ---- numbers that are retained

within : (floor n m : ℕ) → (nat_le floor n && nat_lt n m) ≡ true → (floor ≤ n) × (n < m)
within floor n m is = (low floor n m is, high floor n m is)
  where
    low : (floor n m : ℕ) → (nat_le floor n && nat_lt n m) ≡ true → floor ≤ n
    low floor n m is = grind (arith, nat_tests)

    high : (floor n m : ℕ) → (nat_le floor n && nat_lt n m) ≡ true → n < m
    high floor n m is = grind (arith, nat_tests)

between : (floor n m : ℕ) → floor ≤ n → n < m → (nat_le floor n && nat_lt n m) ≡ true
between floor n m low high = grind (arith, nat_tests)

pub retained_from : (r : Repository) (n : ℕ) → r.floor ≤ n → n < next r → IsTrue (is_retained r n)
retained_from r n low high = between r.floor n (next r) low high

pub retained_is : (r : Repository) (n : ℕ) → IsTrue (is_retained r n) → (r.floor ≤ n) × (n < next r)
retained_is r n is = within r.floor n (next r) is

-- a branch is at a retained commit
pub head_retained : (store : Held) (r : Repository) → IsOf store r → (name : Bytes) (n : ℕ) → get r.branches name ≡ Some n → IsTrue (is_retained r n)
head_retained store r of name n is =
    let inside : (store.slot.floor ≤ n) × (n < store.slot.next) = subst (λ (o : Option ℕ). IfSome o (λ m. (store.slot.floor ≤ m) × (m < store.slot.next))) is (of.retained.each name) in
    let floor = of.floor in
    let next = of.next in
    retained_from r n (omega (arith, floor, inside.0)) (omega (arith, next, inside.1))

-- ---- branches

abbrev pub Branching : Type 0
Branching = Map bytes_cmp ℕ

pub set_heads : (P : ℕ → Type 0) (m : Branching) (name : Bytes) (number : ℕ) → P number → (q : Bytes) → IfSome (get m q) P → IfSome (get (insert m name number) q) P
set_heads P m name number here q is = subst (λ (o : Option ℕ). IfSome o P) (sym (get-insert nat_list_cmp_total m name number q)) (by (eq_by_cmp bytes_cmp q name) (get m q) is)
  where
    by : (b : Bool) (o : Option ℕ) → IfSome o P → IfSome (cond b (Some number) o) P
    by true o is = here
    by false o is = is

removed_heads : (P : ℕ → Type 0) (m : Branching) (name q : Bytes) → IfSome (get m q) P → IfSome (get (remove m name) q) P
removed_heads P m name q is = subst (λ (o : Option ℕ). IfSome o P) (sym (get_without m name q)) (by (not (eq_by_cmp bytes_cmp name q)) (get m q) is)
  where
    by : (b : Bool) (o : Option ℕ) → IfSome o P → IfSome (cond b o None) P
    by true o is = is
    by false o is = tt

pub named_heads : (r : Repository) (x : Record) → MayName r x → (c : Collection) → IsAbove (Some c) x → (q : Bytes) → IfSome (get r.branches q) (λ n. c.commit ≤ n) → IfSome (get (names_after Names.branches r.branches x) q) (λ n. c.commit ≤ n)
named_heads r (Record.BranchSet number name) may c above q is = set_heads (λ (n : ℕ). c.commit ≤ n) r.branches name number above q is
named_heads r (Record.BranchRemove name) may c above q is = removed_heads (λ (n : ℕ). c.commit ≤ n) r.branches name q is
named_heads r (Record.BranchTable rows) may c above q is = subst (λ (m : Branching). IfSome (get m q) (λ n. c.commit ≤ n)) (sym (ap from_entries may ∙ made_again r.branches)) is
named_heads r _ may c above q is = absurd may

-- ---- behind a durable step

job_on : (s : Slot) (u : Unswept) (attempt length commits : ℕ) (job : Job) → attempt ≡ s.next_attempt → IsJobOf s job → IsJobOf (slot_behind s u attempt length commits) job
job_on s u attempt length commits job drawn is = record {
  valid = is.valid;
  attempt = is.attempt ∙ sym drawn;
  end = (let was = is.end in omega (arith, was));
  chunk = is.chunk;
  live = is.live;
  old_horizon = is.old_horizon;
  prefix_len = is.prefix_len;
  rows = is.rows;
}

-- no attempt is drawn while one runs
abbrev pub DrawsNone : Slot → ℕ → Option Collection → Type 0
DrawsNone s attempt o = (c : Collection) → o ≡ Some c → attempt ≡ s.next_attempt

pub phase_on : (s : Slot) (u : Unswept) (attempt length commits : ℕ) (r q : Repository) (o : Option Collection) → q.floor ≡ r.floor → next r ≤ next q → DrawsNone s attempt o
    → ((c : Collection) → o ≡ Some c → IsPhase s r c → (name : Bytes) → IfSome (get q.branches name) (λ n. c.commit ≤ n)) → IsPhaseOf s r o → IsPhaseOf (slot_behind s u attempt length commits) q o
phase_on s u attempt length commits r q None floor more drawn heads is = tt
phase_on s u attempt length commits r q (Some c) floor more drawn heads is = record {
  retained = (let (low, high) = retained_is r c.commit is.retained in retained_from q c.commit (omega (arith, low, floor)) (omega (arith, high, more)));
  heads = heads c refl is;
  told = job_on s u attempt length commits c.job (drawn c refl) is.told;
  reaped = is.reaped;
}

above_from : (o : Option Collection) (c : Collection) (x : Record) → o ≡ Some c → IsAbove o x → IsAbove (Some c) x
above_from o c x same is = subst (λ (p : Option Collection). IsAbove p x) same is

-- and a record of a branch
pub phase_named : (s : Slot) (u : Unswept) (attempt length commits : ℕ) (r q : Repository) (x : Record) (o : Option Collection) → MayName r x → IsAbove o x → q.floor ≡ r.floor → next r ≤ next q → DrawsNone s attempt o → q.branches ≡ names_after Names.branches r.branches x
    → IsPhaseOf s r o → IsPhaseOf (slot_behind s u attempt length commits) q o
phase_named s u attempt length commits r q x o may above floor more drawn branches is =
    phase_on s u attempt length commits r q o floor more drawn
    (λ c same was name. subst (λ (m : Branching). IfSome (get m name) (λ n. c.commit ≤ n)) (sym branches) (named_heads r x may c (above_from o c x same above) name (was.heads name))) is

-- ---- the tests

none_less : (bound n : ℕ) → bound ≤ n → nat_lt n bound ≡ false
none_less bound n low = grind (arith, nat_tests)

pub there_is : (r : Repository) (least : Option ℕ) → unless_some (below r.floor least) Reply.GivenUp ≡ Ok tt → IsThere r least
there_is r None is = tt
there_is r (Some n) is = by_test (nat_lt n r.floor) refl is
  where
    by_test : (b : Bool) → nat_lt n r.floor ≡ b → unless_some (if b then Some n else None) Reply.GivenUp ≡ Ok tt → r.floor ≤ n
    by_test true e is = absurd (cc (is))
    by_test false e is = grind (arith, nat_tests)

pub none_given : (r : Repository) (least : Option ℕ) → IsThere r least → unless_some (below r.floor least) Reply.GivenUp ≡ Ok tt
none_given r None is = refl
none_given r (Some n) is = ap (λ (b : Bool). unless_some (if b then Some n else None) Reply.GivenUp) (none_less r.floor n is)

pub there_none : (r : Repository) (least : Option ℕ) → below r.floor least ≡ None → IsThere r least
there_none r least is = there_is r least (ap (λ (o : Option ℕ). unless_some o Reply.GivenUp) is)

-- ---- parents

pub retained_parents : (r : Repository) (least : Option ℕ) (parents : List ℕ) → AreParents r least parents → IsThere r least → All (λ n. IsTrue (is_retained r n)) parents
retained_parents r least parents are there k d l = by least there (are.above k d l) (are.made k d l)
  where
    by : {n : ℕ} (least : Option ℕ) → IsThere r least → IsSomeAnd least (λ m. m ≤ n) → n < next r → IsTrue (is_retained r n)
    by None there above made = absurd above
    by {n = n} (Some m) there above made = retained_from r n (omega (arith, there, above)) made

pub parents_on : (r q : Repository) (least : Option ℕ) (parents : List ℕ) → next r ≤ next q → AreParents r least parents → AreParents q least parents
parents_on r q least parents more are = record { made = λ k d l. (let was = are.made k d l in omega (arith, was, more)); above = are.above; distinct = are.distinct; few = are.few }

-- ---- records of branches

pub removed_above : (o : Option Collection) (name : Bytes) → IsAbove o (Record.BranchRemove name)
removed_above None name = tt
removed_above (Some c) name = tt

pub set_above : (o : Option Collection) (number : ℕ) (name : Bytes) → not_leaving_in (phase_of o) (Some number) ≡ Ok tt → IsAbove o (Record.BranchSet number name)
set_above None number name is = tt
set_above (Some c) number name is = by_test (nat_lt number c.commit) refl is
  where
    by_test : (b : Bool) → nat_lt number c.commit ≡ b → unless_some (if b then Some number else None) Reply.Leaving ≡ Ok tt → c.commit ≤ number
    by_test true e is = absurd (cc (is))
    by_test false e is = grind (arith, nat_tests)

-- so of what a work took from
pub least_above : (c : Collection) (least : Option ℕ) → not_leaving_in (phase_of (Some c)) least ≡ Ok tt → IfSome least (λ n. c.commit ≤ n)
least_above c None is = tt
least_above c (Some number) is = set_above (Some c) number [] is

-- the number that is the least with others is not below it
pub oldest_above : (low : ℕ) (o : Option ℕ) (ns : List ℕ) → IfSome (fold least_with o ns) (λ n. low ≤ n) → IfSome o (λ n. low ≤ n)
oldest_above low None ns is = tt
oldest_above low (Some m) [] is = is
oldest_above low (Some m) (n ∷ ns) is = let less : low ≤ min m n = oldest_above low (Some (min m n)) ns is in omega (arith, less)

-- where a branch moves on from its commit it stays above
pub ahead_above : (s : Slot) (r : Repository) (o : Option Collection) (name : Bytes) (at number : ℕ) → IsPhaseOf s r o → get r.branches name ≡ Some at → at ≤ number → IsAbove o (Record.BranchSet number name)
ahead_above s r None name at number is here ahead = tt
ahead_above s r (Some c) name at number is here ahead =
    let low : c.commit ≤ at = subst (λ (p : Option ℕ). IfSome p (λ n. c.commit ≤ n)) here (is.heads name) in
    omega (arith, low, ahead)

-- so nothing that rests on it, and on a commit that stays, leaves
pub stays_least : (s : Slot) (r : Repository) (o : Option Collection) (name : Bytes) (at number : ℕ) → IsPhaseOf s r o → get r.branches name ≡ Some at → not_leaving_in (phase_of o) (Some number) ≡ Ok tt → not_leaving_in (phase_of o) (Some (min at number)) ≡ Ok tt
stays_least s r None name at number is here stays = refl
stays_least s r (Some c) name at number is here stays =
    let head : c.commit ≤ at = subst (λ (p : Option ℕ). IfSome p (λ n. c.commit ≤ n)) here (is.heads name) in
    let other : c.commit ≤ number = set_above (Some c) number name stays in
    ap (λ (b : Bool). unless_some (if b then Some (min at number) else None) Reply.Leaving) (none_less c.commit (min at number) (omega (arith, head, other)))
