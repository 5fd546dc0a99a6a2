-- What the machine gives to the commands that name commits and touch no file.
--     X_unnamed      a reference names none.      X_done      they do
--     parent_known, parent_full, parent_done      the commit is a parent already, there are as many as there may be, or it is added
--     IsUnnamed, names_none      the replies of a reference that names none
--     named_retained      what a reference names is retained.      not_below      and what is retained is not below the floor
use Rattle.std.proofs.Common.{◌≡◌, ℕ, ◌+◌, ◌<◌, ◌≤◌, ◌==◌, Bool, true, false, List, [], ◌∷◌, ◌++◌, map, length, refl, sym, ap, ◌∙◌, arith, Option, Some, None, Ok, Err, IsTrue}
use Rattle.std.specs.Prelude.{◌&&◌, nat_le, nat_lt, position, reverse, option_map}
use Rattle.std.specs.List.{list_any}
use Rattle.std.proofs.lemmas.Bool.Decides.{nat_tests}
use Rattle.std.proofs.lemmas.List.Quantifiers.{position-Some}
use Rattle.ip_base.specs.declared.limit.Limit.{Limit}
use Rattle.ip_spec.specs.declared.command.Command.{Command}
use Rattle.ip_spec.specs.declared.command.Target.{Target}
use Rattle.ip_spec.specs.declared.reply.Reply.{Reply}
use Rattle.ip_spec.specs.History.{ancestors, lcas}
use Rattle.ip_spec.specs.Path.{Path, same_bytes}
use Rattle.ip_spec.specs.Record.{Hash}
use Rattle.ip_spec.specs.Repository.{Repository, Commit, next, head, name_at, tree_at, number_named, is_retained}
use Rattle.ip_spec.specs.Tree.{Tree, subtree, place, graft, is_empty, height, widest, got_at}
use Rattle.ip_spec.specs.Machine.{Phase, Work, State}
use Rattle.ip_spec.specs.Step.{Refused, present, ◌>>=◌, ◌>>◌, refuse_if, or_refused, Turned, not_given_up, parents_limit, entries_limit, steps_limit, resolve, with_parent, graft_turn, least_with, head_of, commit_reply, got_reply, Step, outcome}
use Rattle.ip_session.specs.Session.{unasked, met_only, conditions_of}
use Rattle.ip_session.proofs.SessionLemmas.{at, plainly, NoneGivenUp, still_there, behind, tested as refused_by_test, passes, stays_in}

-- ---- what names no commit

-- no commit has the name
abbrev pub IsUnnamed : Reply → Type 0
IsUnnamed (Reply.NoBranch name) = Unit {0}
IsUnnamed (Reply.NoCommit hash) = Unit {0}
IsUnnamed reply = ⊥

abbrev pub NamesNone : Refused ℕ → Type 0
NamesNone (Ok n) = Unit {0}
NamesNone (Err reply) = IsUnnamed reply

pub names_none : (r : Repository) (target : Target) → NamesNone (resolve r target)
names_none r (Target.Branch name) = by (head r name)
  where
    by : (o : Option ℕ) → NamesNone (present o (Reply.NoBranch name))
    by None = tt
    by (Some n) = tt
names_none r (Target.Commit hash) = by (number_named r hash)
  where
    by : (o : Option ℕ) → NamesNone (present o (Reply.NoCommit hash))
    by None = tt
    by (Some n) = tt

-- ---- what is retained

within : (low high n : ℕ) → low ≤ n → n < high → IsTrue (nat_le low n && nat_lt n high)
within low high n a b = grind (arith, nat_tests)

from_floor : (low high n : ℕ) → IsTrue (nat_le low n && nat_lt n high) → low ≤ n
from_floor low high n h = grind (arith, nat_tests)

pub not_below : (r : Repository) (n : ℕ) → IsTrue (is_retained r n) → r.floor ≤ n
not_below r n retained = from_floor r.floor (next r) n retained

placed : (p : Commit → Bool) (cs all : List Commit) (k : ℕ) → cs ≡ all → position p all ≡ Some k → k < length all
placed p [] all k e h = absurd (cc (ap (position p) e ∙ h))
placed p (c ∷ cs) all k e h = (position-Some p all k c h).0

some_same : (m n : ℕ) → Some m ≡ Some n → m ≡ n
some_same m n e = cc

inside : (r : Repository) (p : Commit → Bool) (n : ℕ) (o : Option ℕ) → position p r.commits ≡ o → option_map (λ k. r.floor + k) o ≡ Some n → IsTrue (is_retained r n)
inside r p n None e h = absurd (cc h)
inside r p n (Some k) e h =
    let low = placed p r.commits r.commits k refl e in
    let same = some_same (r.floor + k) n h in
    within r.floor (next r) n (omega (arith, same)) (omega (arith, low, same))

pub named_retained : (r : Repository) (name : Hash) (n : ℕ) → number_named r name ≡ Some n → IsTrue (is_retained r n)
named_retained r name n is = inside r (λ c. same_bytes c.name name) n (position (λ c. same_bytes c.name name) r.commits) refl is

-- ---- the steps of a chain

bound : (s : State) (g : Refused ℕ) (f : ℕ → Refused Turned) (x : Refused ℕ) → g ≡ x → or_refused s (g >>= f) ≡ or_refused s (x >>= f)
bound s g f x e = ap (λ (y : Refused ℕ). or_refused s (y >>= f)) e

module _ (r : Repository) (phase : Phase) (w : Work) where
  abbrev s : State
  s = at r phase w

  abbrev Gives : Command → Reply → State → Type 0
  Gives command reply s' = Step unasked s command (conditions_of (met_only false)) reply s'

  -- ---- parents

  abbrev as_parent : ℕ → Refused Turned
  as_parent n = with_parent s n (list_any (λ p. p == n) w.parents)

  parent_turn : (target : Target) (x : Refused ℕ) → NoneGivenUp r w → resolve r target ≡ x → or_refused s (outcome s (Command.Parent target) (conditions_of (met_only false))) ≡ or_refused s (x >>= as_parent)
  unfolding outcome
  parent_turn target x kept is = behind s (not_given_up s) (resolve r target >>= as_parent) (still_there r phase w kept) ∙ bound s (resolve r target) as_parent x is

  parent_gives : (target : Target) (reply : Reply) (s' : State) (x : Refused ℕ) → NoneGivenUp r w → resolve r target ≡ x → (reply, s') ≡ or_refused s (x >>= as_parent) → Gives (Command.Parent target) reply s'
  parent_gives target reply s' x kept is gives = (plainly r phase w (Command.Parent target) false reply tt (λ h. absurd (cc h)), gives ∙ sym (parent_turn target x kept is))

  pub parent_unnamed : (target : Target) (reply : Reply) → NoneGivenUp r w → resolve r target ≡ Err reply → Gives (Command.Parent target) reply s
  parent_unnamed target reply kept is = parent_gives target reply s (Err reply) kept is refl

  tested : (n : ℕ) (b : Bool) → list_any (λ p. p == n) w.parents ≡ b → or_refused s (as_parent n) ≡ or_refused s (with_parent s n b)
  tested n b e = ap (λ (x : Bool). or_refused s (with_parent s n x)) e

  pub parent_known : (target : Target) (n : ℕ) → NoneGivenUp r w → resolve r target ≡ Ok n → list_any (λ p. p == n) w.parents ≡ true → Gives (Command.Parent target) Reply.Accepted s
  parent_known target n kept is known = parent_gives target Reply.Accepted s (Ok n) kept is (sym (tested n true known))

  full : (k : ℕ) → 16 ≤ k → nat_le parents_limit k ≡ true
  full k h = grind (arith, nat_tests)

  not_full : (k : ℕ) → k < 16 → nat_le parents_limit k ≡ false
  not_full k h = grind (arith, nat_tests)

  abbrev with_one : ℕ → State
  with_one n = at r phase (record w { parents = w.parents ++ n ∷ []; least = least_with w.least n })

  room : (n : ℕ) (b : Bool) → nat_le parents_limit (length w.parents) ≡ b → or_refused s (with_parent s n false) ≡ or_refused s (refuse_if b (Reply.Limit Limit.Parents) >> Ok (Reply.Accepted, with_one n))
  room n b e = ap (λ (x : Bool). or_refused s (refuse_if x (Reply.Limit Limit.Parents) >> Ok (Reply.Accepted, with_one n))) e

  pub parent_full : (target : Target) (n : ℕ) → NoneGivenUp r w → resolve r target ≡ Ok n → list_any (λ p. p == n) w.parents ≡ false → 16 ≤ length w.parents → Gives (Command.Parent target) (Reply.Limit Limit.Parents) s
  parent_full target n kept is new many = parent_gives target (Reply.Limit Limit.Parents) s (Ok n) kept is (sym (tested n false new ∙ room n true (full (length w.parents) many)))

  pub parent_done : (target : Target) (n : ℕ) → NoneGivenUp r w → resolve r target ≡ Ok n → list_any (λ p. p == n) w.parents ≡ false → length w.parents < 16 → Gives (Command.Parent target) Reply.Accepted (with_one n)
  parent_done target n kept is new few = parent_gives target Reply.Accepted (with_one n) (Ok n) kept is (sym (tested n false new ∙ room n false (not_full (length w.parents) few)))

  -- ---- trees of commits

  abbrev checked_out : ℕ → Turned
  checked_out n = (Reply.At (name_at r n), at r phase (record { tree = tree_at r n; parents = n ∷ []; least = Some n }))

  checkout_gives : (target : Target) (reply : Reply) (s' : State) (x : Refused ℕ) → resolve r target ≡ x → (reply, s') ≡ or_refused s (x >>= (λ n. Ok (checked_out n))) → Gives (Command.Checkout target) reply s'
  unfolding outcome
  checkout_gives target reply s' x is gives = (plainly r phase w (Command.Checkout target) false reply tt (λ h. absurd (cc h)), gives ∙ sym (bound s (resolve r target) (λ n. Ok (checked_out n)) x is))

  pub checkout_unnamed : (target : Target) (reply : Reply) → resolve r target ≡ Err reply → Gives (Command.Checkout target) reply s
  checkout_unnamed target reply is = checkout_gives target reply s (Err reply) is refl

  pub checkout_done : (target : Target) (n : ℕ) → resolve r target ≡ Ok n → Gives (Command.Checkout target) (Reply.At (name_at r n)) (at r phase (record { tree = tree_at r n; parents = n ∷ []; least = Some n }))
  checkout_done target n is = checkout_gives target (Reply.At (name_at r n)) (at r phase (record { tree = tree_at r n; parents = n ∷ []; least = Some n })) (Ok n) is refl

  abbrev read_at : Path → ℕ → Reply
  read_at path n = got_reply (got_at (tree_at r n) path)

  cat_gives : (target : Target) (path : Path) (reply : Reply) (x : Refused ℕ) → resolve r target ≡ x → (reply, s) ≡ or_refused s (x >>= (λ n. Ok (read_at path n, s))) → Gives (Command.Cat target path) reply s
  unfolding outcome
  cat_gives target path reply x is gives = (plainly r phase w (Command.Cat target path) false reply tt (λ h. absurd (cc h)), gives ∙ sym (bound s (resolve r target) (λ n. Ok (read_at path n, s)) x is))

  pub cat_unnamed : (target : Target) (path : Path) (reply : Reply) → resolve r target ≡ Err reply → Gives (Command.Cat target path) reply s
  cat_unnamed target path reply is = cat_gives target path reply (Err reply) is refl

  pub cat_done : (target : Target) (path : Path) (n : ℕ) → resolve r target ≡ Ok n → Gives (Command.Cat target path) (got_reply (got_at (tree_at r n) path)) s
  cat_done target path n is = cat_gives target path (got_reply (got_at (tree_at r n) path)) (Ok n) is refl

  abbrev grafted : Path → Path → ℕ → Refused Turned
  grafted from to n = graft_turn s n (subtree (tree_at r n) from) to

  graft_gives : (target : Target) (from to : Path) (reply : Reply) (s' : State) (x : Refused ℕ) → NoneGivenUp r w → resolve r target ≡ x → (reply, s') ≡ or_refused s (x >>= grafted from to) → Gives (Command.Graft target from to) reply s'
  unfolding outcome
  graft_gives target from to reply s' x kept is gives = (
    plainly r phase w (Command.Graft target from to) false reply tt (λ h. absurd (cc h)),
    gives ∙ sym (behind s (not_given_up s) (resolve r target >>= grafted from to) (still_there r phase w kept) ∙ bound s (resolve r target) (grafted from to) x is),
  )

  pub graft_unnamed : (target : Target) (from to : Path) (reply : Reply) → NoneGivenUp r w → resolve r target ≡ Err reply → Gives (Command.Graft target from to) reply s
  graft_unnamed target from to reply kept is = graft_gives target from to reply s (Err reply) kept is refl

  module _ (target : Target) (from to : Path) (n : ℕ) (kept : NoneGivenUp r w) (is : resolve r target ≡ Ok n) where
    abbrev source : Tree
    source = tree_at r n

    abbrev sub : Tree
    sub = subtree source from

    abbrev with_graft : Tree → State
    with_graft tree = at r phase (record w { tree = tree; least = least_with w.least n })

    -- behind the tests
    abbrev unlimited : Refused Turned
    unlimited = Ok (Reply.Accepted, with_graft (place w.tree to sub))

    abbrev narrow_test : Bool → Refused Turned
    narrow_test wide = refuse_if wide (Reply.Limit Limit.Entries) >> unlimited

    abbrev depth_test : Bool → Refused Turned
    depth_test deep = refuse_if deep (Reply.Limit Limit.Depth) >> narrow_test (nat_lt entries_limit (widest (place w.tree to sub)))

    some_tested : (none : Bool) → is_empty sub ≡ none → or_refused s (grafted from to n) ≡ or_refused s (refuse_if none Reply.Absent >> depth_test (nat_lt steps_limit (length to + height sub)))
    some_tested none e = refused_by_test s Reply.Absent (depth_test (nat_lt steps_limit (length to + height sub))) (is_empty sub) none e

    depth_tested : (deep : Bool) → nat_lt steps_limit (length to + height sub) ≡ deep → or_refused s (depth_test (nat_lt steps_limit (length to + height sub))) ≡ or_refused s (depth_test deep)
    depth_tested deep e = ap (λ (x : Bool). or_refused s (depth_test x)) e

    narrow_tested : (wide : Bool) → nat_lt entries_limit (widest (place w.tree to sub)) ≡ wide → or_refused s (narrow_test (nat_lt entries_limit (widest (place w.tree to sub)))) ≡ or_refused s (narrow_test wide)
    narrow_tested wide e = ap (λ (x : Bool). or_refused s (narrow_test x)) e

    pub graft_absent : is_empty sub ≡ true → Gives (Command.Graft target from to) Reply.Absent s
    graft_absent none = graft_gives target from to Reply.Absent s (Ok n) kept is (sym (some_tested true none))

    pub graft_deep : is_empty sub ≡ false → steps_limit < length to + height sub → Gives (Command.Graft target from to) (Reply.Limit Limit.Depth) s
    graft_deep some deep = graft_gives target from to (Reply.Limit Limit.Depth) s (Ok n) kept is (sym (some_tested false some ∙ depth_tested true (passes steps_limit (length to + height sub) deep)))

    pub graft_wide : is_empty sub ≡ false → length to + height sub ≤ steps_limit → entries_limit < widest (graft w.tree source from to) → Gives (Command.Graft target from to) (Reply.Limit Limit.Entries) s
    unfolding graft
    graft_wide some shallow wide = graft_gives target from to (Reply.Limit Limit.Entries) s (Ok n) kept is
        (sym (some_tested false some ∙ depth_tested false (stays_in steps_limit (length to + height sub) shallow) ∙ narrow_tested true (passes entries_limit (widest (place w.tree to sub)) wide)))

    pub graft_done : is_empty sub ≡ false → length to + height sub ≤ steps_limit → widest (graft w.tree source from to) ≤ entries_limit → Gives (Command.Graft target from to) Reply.Accepted (with_graft (graft w.tree source from to))
    unfolding graft
    graft_done some shallow narrow = graft_gives target from to Reply.Accepted (with_graft (place w.tree to sub)) (Ok n) kept is
        (sym (some_tested false some ∙ depth_tested false (stays_in steps_limit (length to + height sub) shallow) ∙ narrow_tested false (stays_in entries_limit (widest (place w.tree to sub)) narrow)))

  -- ---- what the store tells

  pub branches_done : Gives Command.Branches (Reply.Branches (map (head_of r) r.branches.entries)) s
  unfolding outcome
  branches_done = (plainly r phase w Command.Branches false (Reply.Branches (map (head_of r) r.branches.entries)) tt (λ h. absurd (cc h)), refl)

  show_gives : (target : Target) (reply : Reply) (x : Refused ℕ) → resolve r target ≡ x → (reply, s) ≡ or_refused s (x >>= (λ n. Ok (commit_reply r n, s))) → Gives (Command.Show target) reply s
  unfolding outcome
  show_gives target reply x is gives = (plainly r phase w (Command.Show target) false reply tt (λ h. absurd (cc h)), gives ∙ sym (bound s (resolve r target) (λ n. Ok (commit_reply r n, s)) x is))

  pub show_unnamed : (target : Target) (reply : Reply) → resolve r target ≡ Err reply → Gives (Command.Show target) reply s
  show_unnamed target reply is = show_gives target reply (Err reply) is refl

  pub show_done : (target : Target) (n : ℕ) → resolve r target ≡ Ok n → Gives (Command.Show target) (commit_reply r n) s
  show_done target n is = show_gives target (commit_reply r n) (Ok n) is refl

  abbrev logged : ℕ → Reply
  logged n = Reply.Log (map (name_at r) (reverse (ancestors r n)))

  log_gives : (target : Target) (reply : Reply) (x : Refused ℕ) → resolve r target ≡ x → (reply, s) ≡ or_refused s (x >>= (λ n. Ok (logged n, s))) → Gives (Command.Log target) reply s
  unfolding outcome
  log_gives target reply x is gives = (plainly r phase w (Command.Log target) false reply tt (λ h. absurd (cc h)), gives ∙ sym (bound s (resolve r target) (λ n. Ok (logged n, s)) x is))

  pub log_unnamed : (target : Target) (reply : Reply) → resolve r target ≡ Err reply → Gives (Command.Log target) reply s
  log_unnamed target reply is = log_gives target reply (Err reply) is refl

  pub log_done : (target : Target) (n : ℕ) → resolve r target ≡ Ok n → Gives (Command.Log target) (logged n) s
  log_done target n is = log_gives target (logged n) (Ok n) is refl

  abbrev common_of : ℕ → ℕ → Reply
  common_of m n = Reply.Lcas (map (name_at r) (lcas r m n))

  abbrev second : Target → ℕ → Refused Turned
  second other m = resolve r other >>= (λ n. Ok (common_of m n, s))

  lcas_gives : (one other : Target) (reply : Reply) (x : Refused ℕ) → resolve r one ≡ x → (reply, s) ≡ or_refused s (x >>= second other) → Gives (Command.Lcas one other) reply s
  unfolding outcome
  lcas_gives one other reply x is gives = (plainly r phase w (Command.Lcas one other) false reply tt (λ h. absurd (cc h)), gives ∙ sym (bound s (resolve r one) (second other) x is))

  pub lcas_unnamed : (one other : Target) (reply : Reply) → resolve r one ≡ Err reply → Gives (Command.Lcas one other) reply s
  lcas_unnamed one other reply is = lcas_gives one other reply (Err reply) is refl

  pub lcas_unnamed_second : (one other : Target) (m : ℕ) (reply : Reply) → resolve r one ≡ Ok m → resolve r other ≡ Err reply → Gives (Command.Lcas one other) reply s
  lcas_unnamed_second one other m reply is none = lcas_gives one other reply (Ok m) is (sym (bound s (resolve r other) (λ n. Ok (common_of m n, s)) (Err reply) none))

  pub lcas_done : (one other : Target) (m n : ℕ) → resolve r one ≡ Ok m → resolve r other ≡ Ok n → Gives (Command.Lcas one other) (common_of m n) s
  lcas_done one other m n is there = lcas_gives one other (common_of m n) (Ok m) is (sym (bound s (resolve r other) (λ k. Ok (common_of m k, s)) (Ok n) there))
