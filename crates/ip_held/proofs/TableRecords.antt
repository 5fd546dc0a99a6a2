-- The record of all branches as they are.
--     table_may, table_same      it may stand behind the records of the repository, and changes no branch
--     table_fits      it is within its bounds
--     all_heads      what is so of the head of each name is so of each head
--     none_below      where none is held below a number, no branch is below it
use Rattle.std.proofs.Common.{◌≡◌, ℕ, ◌*◌, ◌<◌, ◌≤◌, ◌^◌, Bool, true, false, cond, T, List, [], ◌∷◌, ◌++◌, map, length, Option, Some, None, refl, sym, ◌∙◌, ap, subst, arith, length-append}
use Rattle.std.specs.Prelude.{◌&&◌, All, IfSome, flat_map, nat_lt, suc}
use Rattle.std.specs.Option.{option_map}
use Rattle.std.specs.Ordering.{is_eq, is_lt}
use Rattle.std.specs.declared.cmp.Ordering.{Ordering}
use Rattle.std.specs.declared.cmp.Ordering.TheVariants.{Less, Equal, Greater}
use Rattle.std.specs.FinMap.Entries.{find, is_sorted, below_all}
use Rattle.std.specs.List as list
use Rattle.std.specs.List.{AllByRecursion}
use Rattle.std.proofs.lemmas.Bool.Decides.{nat_tests}
use Rattle.std.proofs.lemmas.List.Elements.{All-from_recursion, recursion_from_All}
use Rattle.ip_spec.specs.declared.record.Branch.{Branch}
use Rattle.ip_spec.specs.Map.{Map, get, from_entries}
use Rattle.ip_spec.specs.Path.{Bytes, bytes_cmp}
use Rattle.ip_spec.specs.Record.{Fits, IsBranchName, IsU64, are_rising, body, short_text, u16, u64}
use Rattle.ip_spec.specs.Repository.{Repository}
use Rattle.ip_spec.specs.Step.{held_branch}
use Rattle.ip_spec.proofs.Subtrees.{step_antisymmetric, step_itself}
use Rattle.ip_image.specs.Standing.{row_of}
use Rattle.ip_image.specs.Appending.{MayName, renamed}
use Rattle.ip_image.proofs.Tables.{made_again}
use Rattle.ip_save.proofs.Split.{both_first, both_second, less_of}
use Rattle.ip_held.specs.TableRecord.{branch_row, table_of}
use Rattle.ip_held.specs.declared.held.Held.{Held}
use Rattle.ip_held.specs.Held.{IsOf}

abbrev Entries : Type 0
Entries = List (Bytes × ℕ)

rows_again : (es : Entries) → map row_of (map branch_row es) ≡ es
rows_again [] = refl
rows_again (e ∷ es) = ap (λ rest. (e.0, e.1) ∷ rest) (rows_again es)

pub table_may : (r : Repository) → MayName r (table_of r)
table_may r = rows_again r.branches.entries

pub table_same : (r : Repository) → renamed r (table_of r) ≡ r
table_same r = λ i. record r { branches = (ap from_entries (rows_again r.branches.entries) ∙ made_again r.branches) i }

-- ---- in order

below_keys : (name : Bytes) (es : Entries) → below_all bytes_cmp name es ≡ below_all bytes_cmp name (map (λ (t : Bytes). (t, t)) (map (λ (row : Branch). row.name) (map branch_row es)))
below_keys name [] = refl
below_keys name (e ∷ es) = ap (λ b. is_lt (bytes_cmp name e.0) && b) (below_keys name es)

rising_is : (es : Entries) → is_sorted bytes_cmp es ≡ are_rising (map (λ (row : Branch). row.name) (map branch_row es))
rising_is [] = refl
rising_is (e ∷ es) = let a = below_keys e.0 es in let b = rising_is es in λ i. a i && b i

true_of : (b : Bool) → T b → b ≡ true
true_of true is = refl
true_of false is = absurd is

-- ---- each is found

less_eq : (o : Ordering) → o ≡ Less → o ≡ Equal → ⊥
less_eq o a b = absurd (cc (a, b))

other_key : (k q : Bytes) → T (is_lt (bytes_cmp k q)) → is_eq (bytes_cmp q k) ≡ false
other_key k q less = by (bytes_cmp q k) refl
  where
    by : (o : Ordering) → bytes_cmp q k ≡ o → is_eq o ≡ false
    by Less e = refl
    by Equal e = absurd (less_eq (bytes_cmp k q) (less_of (bytes_cmp k q) less) (subst (λ (t : Bytes). bytes_cmp k t ≡ Equal) (sym (step_antisymmetric q k e)) (step_itself k)))
    by Greater e = refl

abbrev IsFound : Entries → Bytes × ℕ → Type 0
IsFound all e = find bytes_cmp e.0 all ≡ Some e.1

found_later : (x : Bytes × ℕ) (all ys : Entries) → T (below_all bytes_cmp x.0 ys) → AllByRecursion (IsFound all) ys → AllByRecursion (IsFound (x ∷ all)) ys
found_later x all [] below none = tt
found_later x all (y ∷ ys) below (first, rest) = (
  ap (λ b. cond b (Some x.1) (find bytes_cmp y.0 all)) (other_key x.0 y.0 (both_first _ _ below)) ∙ first,
  found_later x all ys (both_second _ _ below) rest,
)

each_found : (es : Entries) → T (is_sorted bytes_cmp es) → AllByRecursion (IsFound es) es
each_found [] sorted = tt
each_found (x ∷ es) sorted = (
  ap (λ o. cond (is_eq o) (Some x.1) (find bytes_cmp x.0 es)) (step_itself x.0),
  found_later x es es (both_first _ _ sorted) (each_found es (both_second _ _ sorted)),
)

heads_found : (P : ℕ → Type 0) (all es : Entries) → ((name : Bytes) → IfSome (find bytes_cmp name all) P) → AllByRecursion (IsFound all) es → AllByRecursion (λ (e : Bytes × ℕ). P e.1) es
heads_found P all [] each found = tt
heads_found P all (e ∷ es) each (first, rest) = (subst (λ (o : Option ℕ). IfSome o P) first (each e.0), heads_found P all es each rest)

-- so what is so of the head of each name is so of each head
pub all_heads : (P : ℕ → Type 0) (m : Map bytes_cmp ℕ) → ((name : Bytes) → IfSome (get m name) P) → All (λ (e : Bytes × ℕ). P e.1) m.entries
all_heads P m each = All-from_recursion (λ (e : Bytes × ℕ). P e.1) m.entries (heads_found P m.entries m.entries each (each_found m.entries m.sorted))

-- ---- within bounds

abbrev IsRow : Branch → Type 0
IsRow row = IsBranchName row.name × IsU64 row.number

rows_within : (all es : Entries) (low high : ℕ) → high ≤ 2 ^ 62 → ((name : Bytes) → IfSome (find bytes_cmp name all) (λ n. (low ≤ n) × (n < high))) → AllByRecursion (IsFound all) es → AllByRecursion (λ (e : Bytes × ℕ). IsBranchName e.0) es
    → AllByRecursion IsRow (map branch_row es)
rows_within all [] low high few each found named = tt
rows_within all (e ∷ es) low high few each (found, founds) (name, names) = (
  (
    name,
    (let inside : (low ≤ e.1) × (e.1 < high) = subst (λ (o : Option ℕ). IfSome o (λ n. (low ≤ n) × (n < high))) found (each e.0) in let less = inside.1 in omega (arith, less, few)),
  ),
  rows_within all es low high few each founds names,
)

rows_size : (es : Entries) → length (map branch_row es) ≡ length es
rows_size [] = refl
rows_size (e ∷ es) = ap suc (rows_size es)

rows_short : (es : Entries) → AllByRecursion (λ (e : Bytes × ℕ). IsBranchName e.0) es → length (flat_map (λ (row : Branch). short_text row.name ++ u64 row.number) (map branch_row es)) ≤ 264 * length es
rows_short [] none = omega arith
rows_short (e ∷ es) (name, names) =
    let rest = rows_short es names in
    let short = name.short in
    let first = length-append (short_text e.0) (u64 e.1) in
    let whole = length-append (short_text e.0 ++ u64 e.1) (flat_map (λ (row : Branch). short_text row.name ++ u64 row.number) (map branch_row es)) in
    omega (arith, rest, short, first, whole)

module _ (store : Held) (r : Repository) (of : IsOf store r) where
  abbrev named : AllByRecursion (λ (e : Bytes × ℕ). IsBranchName e.0) r.branches.entries
  named = recursion_from_All (λ (e : Bytes × ℕ). IsBranchName e.0) r.branches.entries of.named

  few : length (map branch_row r.branches.entries) ≤ 4096
  few = let size = rows_size r.branches.entries in let most = of.retained.few in omega (arith, size, most)

  short : length (body (table_of r)) < 2 ^ 32
  unfolding body
  short =
      let rows = rows_short r.branches.entries named in
      let most = of.retained.few in
      let whole = length-append (u16 (length (map branch_row r.branches.entries))) (flat_map (λ (row : Branch). short_text row.name ++ u64 row.number) (map branch_row r.branches.entries)) in
      omega (arith, rows, most, whole)

  pub table_fits : Fits 1 (table_of r)
  table_fits = record {
    size = short;
    fields = record {
      count = few;
      each = All-from_recursion IsRow (map branch_row r.branches.entries)
          (rows_within r.branches.entries r.branches.entries store.slot.floor store.slot.next (let next = of.slot.next in let ends = of.slot.ends in omega (arith, next, ends)) of.retained.each (each_found r.branches.entries r.branches.sorted) named);
      rising = sym (rising_is r.branches.entries) ∙ true_of (is_sorted bytes_cmp r.branches.entries) r.branches.sorted;
    };
  }

-- ---- none is held

abbrev NoneOf : Option (Bytes × ℕ) → Type 0
NoneOf o = option_map (λ (e : Bytes × ℕ). e.0) o ≡ None

from_none : (number : ℕ) (es : Entries) → NoneOf (list.find (λ (e : Bytes × ℕ). nat_lt e.1 number) es) → (name : Bytes) → IfSome (find bytes_cmp name es) (λ n. number ≤ n)
from_none number [] none name = tt
from_none number (e ∷ es) none name = by (nat_lt e.1 number) refl none (λ later. from_none number es later name)
  where
    below : nat_lt e.1 number ≡ false → number ≤ e.1
    below is = grind (arith, nat_tests)

    here : (b : Bool) → number ≤ e.1 → IfSome (find bytes_cmp name es) (λ n. number ≤ n) → IfSome (cond b (Some e.1) (find bytes_cmp name es)) (λ n. number ≤ n)
    here true low rest = low
    here false low rest = rest

    by : (b : Bool) → nat_lt e.1 number ≡ b → NoneOf (cond b (Some e) (list.find (λ (e : Bytes × ℕ). nat_lt e.1 number) es)) → (NoneOf (list.find (λ (e : Bytes × ℕ). nat_lt e.1 number) es) → IfSome (find bytes_cmp name es) (λ n. number ≤ n))
        → IfSome (find bytes_cmp name (e ∷ es)) (λ n. number ≤ n)
    by true is none later = absurd (cc (none))
    by false is none later = here (is_eq (bytes_cmp name e.0)) (below is) (later none)

pub none_below : (r : Repository) (number : ℕ) → held_branch r number ≡ None → (name : Bytes) → IfSome (get r.branches name) (λ n. number ≤ n)
none_below r number none = from_none number r.branches.entries none
