-- The commits that a walk has still to look at, by number, each with its flags.
--     at cs n      the flags of commit n.      known o      these, or none.      joined e f      what either says
--     passed f      what the parents get.      is_least f      common, and not stale
--     alive K f      1, if this flag is set and it isn't stale, else 0.      alive_of K cs      how many such ones there are
--     NoneAlive K cs      those with this flag are stale.      IsSettled cs      there is none alive of the one commit, or none of the list
--     IsPut old new n o      commit n has o, and each other has what it had
--     IsTaken old new n f      the greatest number n has left, which had f
--     is_parent h n m      m is a retained parent of n.      Passes h n f old new      each such one has what it had and f
--     flagged K o      this flag is set.      IsHeads ns n cs      n is the one commit, and ns is the list
use Rattle.std.specs.Prelude.{◌≡◌, ◌≢◌, ◌⊎◌, ℕ, ◌-◌, ◌≤◌, ◌==◌, Bool, true, false, not, ◌&&◌, ◌||◌, cond, if◌then◌else◌, List, [], Option, Some, None, IsSome, Contains, nat_le, slice_index_or}
use Rattle.std.specs.List.{sum_by, list_any}
use Rattle.std.specs.Map.{lookup, values_of}
use Rattle.std.specs.BTreeMap.{is_at}
use Rattle.std.specs.Ordering.{nat_cmp}
use Rattle.ip_history.specs.History.{History}
use Rattle.ip_history.specs.declared.frontier.Flags.{Flags}

abbrev pub Commits : Type 0
Commits = List (ℕ × Flags)

abbrev pub at : Commits → ℕ → Option Flags
at cs n = lookup (is_at (nat_cmp n)) cs

abbrev pub unflagged : Flags
unflagged = record { own = false; listed = false; stale = false }

abbrev pub known : Option Flags → Flags
known None = unflagged
known (Some f) = f

abbrev pub joined : Flags → Flags → Flags
joined e f = record { own = e.own || f.own; listed = e.listed || f.listed; stale = e.stale || f.stale }

abbrev pub passed : Flags → Flags
passed f = record { own = f.own; listed = f.listed; stale = f.own && f.listed }

abbrev pub is_least : Flags → Bool
is_least f = f.own && f.listed && not f.stale

abbrev pub alive : (Flags → Bool) → Flags → ℕ
alive K f = if K f && not f.stale then 1 else 0

abbrev pub alive_of : (Flags → Bool) → Commits → ℕ
alive_of K cs = sum_by (alive K) (values_of cs)

abbrev pub flagged : (Flags → Bool) → Option Flags → Bool
flagged K None = false
flagged K (Some f) = K f

abbrev pub NoneAlive : (Flags → Bool) → Commits → Type 0
NoneAlive K cs = (n : ℕ) → flagged K (at cs n) ≡ true → flagged (λ f. f.stale) (at cs n) ≡ true

abbrev pub IsSettled : Commits → Type 0
IsSettled cs = NoneAlive (λ f. f.own) cs ⊎ NoneAlive (λ f. f.listed) cs

pub record IsPut (old new : Commits) (n : ℕ) (o : Option Flags) : Type 0 where
  pub here : at new n ≡ o
  pub others : (m : ℕ) → m ≢ n → at new m ≡ at old m

pub record IsTaken (old new : Commits) (n : ℕ) (f : Flags) : Type 0 where
  pub was : at old n ≡ Some f
  pub greatest : (m : ℕ) → IsSome (at old m) → m ≤ n
  pub left : IsPut old new n None

abbrev pub is_parent : History → ℕ → ℕ → Bool
is_parent h n m = nat_le h.floor m && list_any (λ p. p == m) (slice_index_or h.parents (n - h.floor) [])

abbrev pub Passes : History → ℕ → Flags → Commits → Commits → Type 0
Passes h n f old new = (m : ℕ) → at new m ≡ cond (is_parent h n m) (Some (joined (known (at old m)) f)) (at old m)

pub record IsHeads (ns : List ℕ) (n : ℕ) (cs : Commits) : Type 0 where
  pub own : (m : ℕ) → flagged (λ f. f.own) (at cs m) ≡ (n == m)
  pub listed : (m : ℕ) → flagged (λ f. f.listed) (at cs m) ≡ list_any (λ k. k == m) ns
  pub stale : (m : ℕ) → flagged (λ f. f.stale) (at cs m) ≡ false
  pub given : (m : ℕ) → IsSome (at cs m) → (n ≡ m) ⊎ Contains ns m
