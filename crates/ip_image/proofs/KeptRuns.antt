-- The runs of kept records, and where their bytes lie in a prefix.
--     Ordered from xs to      records one behind the other, between two offsets
--     rows_in_order, rows_numbers, rows_total, runs_again      the rows of their runs are in order, fit their fields, and add up
--     kept_stand      in the bytes that the runs give of the prefix each of them stands
--     runs_filled      records that stand fill their runs
--     front_rows, front_total      one run more in front
use Rattle.std.proofs.Common.{◌≡◌, ◌≢◌, ◌⊎◌, inl, inr, ℕ, zero, suc, ◌+◌, ◌-◌, ◌^◌, ◌<◌, ◌≤◌, List, [], ◌∷◌, ◌++◌, refl, sym, ap, subst, ◌∙◌, Option, Some, Bool, true, false, cond, T, length, arith, eqb→eq, length-append}
use Rattle.std.proofs.lemmas.Bool.{cases_lt}
use Rattle.std.proofs.lemmas.Bool.Decides.{nat_tests}
use Rattle.std.proofs.lemmas.List.Sums.{sum_by-cons}
use Rattle.std.specs.Prelude.{map, slice_get, nat_le, nat_lt, ◌==◌, ◌&&◌}
use Rattle.std.specs.List.{AllByRecursion}
use Rattle.std.specs.Option.{option_and_then}
use Rattle.ip_spec.specs.declared.record.Record.{Record}
use Rattle.ip_spec.specs.Path.{Bytes}
use Rattle.ip_spec.specs.Record.{spelling, IsU64}
use Rattle.ip_spec.specs.TreeAt.{Records}
use Rattle.ip_image.specs.Virtual.{Run, Row, total, run_of, placed, RowsFitFrom, locate, locate_from, byte_of, Stands}
use Rattle.ip_image.specs.Standing.{EndToEnd, RunByRun}
use Rattle.ip_image.specs.Collection.{in_front, runs_of, kept_bytes}
use Rattle.ip_image.proofs.PairLaws.{Has}

-- ---- order

abbrev pub Ordered : ℕ → Records → ℕ → Type 0
Ordered from [] to = from ≤ to
Ordered from (x ∷ xs) to = (from ≤ x.0) × (0 < length (spelling x.1)) × Ordered (x.0 + length (spelling x.1)) xs to

pub ordered_up : (from : ℕ) (xs : Records) (to : ℕ) → Ordered from xs to → from ≤ to
ordered_up from [] to o = o
ordered_up from (x ∷ xs) to (low, some, o) = let up = ordered_up (x.0 + length (spelling x.1)) xs to o in omega (arith, low, up)

pub ordered_has : (from : ℕ) (xs : Records) (to : ℕ) (y : ℕ × Record) → Ordered from xs to → Has xs y → (from ≤ y.0) × (y.0 + length (spelling y.1) ≤ to) × (0 < length (spelling y.1))
ordered_has from [] to y o has = absurd has
ordered_has from (x ∷ xs) to y (low, some, o) (inl is) = subst (λ (z : ℕ × Record). (from ≤ z.0) × (z.0 + length (spelling z.1) ≤ to) × (0 < length (spelling z.1))) is (low, ordered_up (x.0 + length (spelling x.1)) xs to o, some)
ordered_has from (x ∷ xs) to y (low, some, o) (inr has) = let (a, b, c) = ordered_has (x.0 + length (spelling x.1)) xs to y o has in (omega (arith, low, a), b, c)

pub ordered_lower : (low from : ℕ) (xs : Records) (to : ℕ) → low ≤ from → Ordered from xs to → Ordered low xs to
ordered_lower low from [] to l o = omega (arith, l, o)
ordered_lower low from (x ∷ xs) to l (a, some, o) = (omega (arith, l, a), some, o)

pub ordered_append : (from : ℕ) (xs ys : Records) (middle to : ℕ) → Ordered from xs middle → Ordered middle ys to → Ordered from (xs ++ ys) to
ordered_append from [] ys middle to o later = ordered_lower from middle ys to o later
ordered_append from (x ∷ xs) ys middle to (low, some, o) later = (low, some, ordered_append (x.0 + length (spelling x.1)) xs ys middle to o later)

-- ---- tests

test_within : (at o n : ℕ) → at ≤ o → o < at + n → (nat_le at o && nat_lt o (at + n)) ≡ true
test_within at o n low high = grind (arith, nat_tests)

test_beyond : (at o n : ℕ) → at + n ≤ o → (nat_le at o && nat_lt o (at + n)) ≡ false
test_beyond at o n high = grind (arith, nat_tests)

touch : (m n : ℕ) → (m == n) ≡ true → m ≡ n
touch m n e = eqb→eq m n (subst T (sym e) tt)

apart : (m n : ℕ) → (m == n) ≡ false → m ≢ n
apart m n e same = grind arith

-- ---- where an offset lies

located_in : (place : ℕ) (run : Run) (runs : List Run) (o : ℕ) → run.at ≤ o → o < run.at + run.length → locate_from place (run ∷ runs) o ≡ Some (place + (o - run.at))
located_in place run runs o low high = ap (λ (b : Bool). cond b (Some (place + (o - run.at))) (locate_from (place + run.length) runs o)) (test_within run.at o run.length low high)

located_behind : (place : ℕ) (run : Run) (runs : List Run) (o : ℕ) → run.at + run.length ≤ o → locate_from place (run ∷ runs) o ≡ locate_from (place + run.length) runs o
located_behind place run runs o high = ap (λ (b : Bool). cond b (Some (place + (o - run.at))) (locate_from (place + run.length) runs o)) (test_beyond run.at o run.length high)

first_located : (place at n : ℕ) (runs : List Run) (o : ℕ) → at ≤ o → o < at + n → locate_from place (in_front at n runs) o ≡ Some (place + (o - at))
first_located place at n [] o low high = located_in place (record { at = at; length = n }) [] o low high
first_located place at n (run ∷ runs) o low high = by (at + n == run.at)
  where
    by : (b : Bool) → locate_from place (cond b (record { at = at; length = n + run.length } ∷ runs) (record { at = at; length = n } ∷ run ∷ runs)) o ≡ Some (place + (o - at))
    by true = located_in place (record { at = at; length = n + run.length }) runs o low (omega (arith, high))
    by false = located_in place (record { at = at; length = n }) (run ∷ runs) o low high

later_located : (place at n : ℕ) (runs : List Run) (o : ℕ) → at + n ≤ o → locate_from place (in_front at n runs) o ≡ locate_from (place + n) runs o
later_located place at n [] o high = located_behind place (record { at = at; length = n }) [] o high
later_located place at n (run ∷ runs) o high = by (at + n == run.at) refl
  where
    joined : at + n ≡ run.at → (o < run.at + run.length) ⊎ (run.at + run.length ≤ o) → locate_from place (record { at = at; length = n + run.length } ∷ runs) o ≡ locate_from (place + n) (run ∷ runs) o
    joined e (inl l) =
        let same : place + (o - at) ≡ place + n + (o - run.at) = omega (arith, e, high) in
        located_in place (record { at = at; length = n + run.length }) runs o (omega (arith, high)) (omega (arith, e, l)) ∙ ap Some same ∙ sym (located_in (place + n) run runs o (omega (arith, e, high)) l)
    joined e (inr l) =
        let same : place + (n + run.length) ≡ place + n + run.length = omega arith in
        located_behind place (record { at = at; length = n + run.length }) runs o (omega (arith, e, l)) ∙ ap (λ (p : ℕ). locate_from p runs o) same ∙ sym (located_behind (place + n) run runs o l)

    either : (o < run.at + run.length) ⊎ (run.at + run.length ≤ o)
    either = cases_lt o (run.at + run.length)

    by : (b : Bool) → (at + n == run.at) ≡ b → locate_from place (cond b (record { at = at; length = n + run.length } ∷ runs) (record { at = at; length = n } ∷ run ∷ runs)) o ≡ locate_from (place + n) (run ∷ runs) o
    by true e = joined (touch (at + n) run.at e) either
    by false e = located_behind place (record { at = at; length = n }) (run ∷ runs) o high

-- ---- the bytes of a prefix

-- an element of what stands in front, and of what stands behind
pub get_front : {X : Type 0} (xs ys : List X) (k : ℕ) → k < length xs → slice_get (xs ++ ys) k ≡ slice_get xs k
get_front [] ys k l = absurd (omega (arith, l))
get_front (x ∷ xs) ys zero l = refl
get_front (x ∷ xs) ys (suc k) l = get_front xs ys k (omega (arith, l))

pub get_behind : {X : Type 0} (xs ys : List X) (k : ℕ) → slice_get (xs ++ ys) (length xs + k) ≡ slice_get ys k
get_behind [] ys k = ap (slice_get ys) (omega arith)
get_behind (x ∷ xs) ys k =
    let e : suc (length xs) + k ≡ suc (length xs + k) = omega arith in
    ap (slice_get (x ∷ (xs ++ ys))) e ∙ get_behind xs ys k

-- the place in the prefix of a byte of a kept record
record Placed (kept : Records) (place o : ℕ) (byte : Option ℕ) : Type 0 where
  behind : ℕ
  located : locate_from place (runs_of kept) o ≡ Some (place + behind)
  held : slice_get (kept_bytes kept) behind ≡ byte

each_placed : (kept : Records) (from to place : ℕ) → Ordered from kept to → (y : ℕ × Record) → Has kept y → (k : ℕ) → k < length (spelling y.1) → Placed kept place (y.0 + k) (slice_get (spelling y.1) k)
each_placed [] from to place o y has k l = absurd has
each_placed (x ∷ xs) from to place (low, some, o) y (inl is) k l = subst (λ (z : ℕ × Record). k < length (spelling z.1) → Placed (x ∷ xs) place (z.0 + k) (slice_get (spelling z.1) k)) is first l
  where
    first : k < length (spelling x.1) → Placed (x ∷ xs) place (x.0 + k) (slice_get (spelling x.1) k)
    first l = record {
      behind = k;
      located = first_located place x.0 (length (spelling x.1)) (runs_of xs) (x.0 + k) (omega arith) (omega (arith, l)) ∙ ap (λ (n : ℕ). Some (place + n)) (omega arith);
      held = get_front (spelling x.1) (kept_bytes xs) k l;
    }
each_placed (x ∷ xs) from to place (low, some, o) y (inr has) k l =
    let deep = each_placed xs (x.0 + length (spelling x.1)) to (place + length (spelling x.1)) o y has k l in
    let (under, _, _) = ordered_has (x.0 + length (spelling x.1)) xs to y o has in
    let same : place + length (spelling x.1) + deep.behind ≡ place + (length (spelling x.1) + deep.behind) = omega arith in
    record {
      behind = length (spelling x.1) + deep.behind;
      located = later_located place x.0 (length (spelling x.1)) (runs_of xs) (y.0 + k) (omega (arith, under)) ∙ deep.located ∙ ap Some same;
      held = get_behind (spelling x.1) (kept_bytes xs) deep.behind ∙ deep.held;
    }

prefix_byte : (file : Option Bytes) (bytes : Bytes) (at : ℕ) → file ≡ Some bytes → byte_of file at ≡ slice_get bytes at
prefix_byte file bytes at is = ap (λ (o : Option Bytes). byte_of o at) is

-- in the bytes that the runs give of the prefix, each kept record stands
pub kept_stand : (file : Option Bytes) (kept : Records) (from to : ℕ) → file ≡ Some (kept_bytes kept) → Ordered from kept to
    → (y : ℕ × Record) → Has kept y → Stands (λ o. option_and_then (λ place. byte_of file place) (locate (runs_of kept) o)) y.0 (spelling y.1)
unfolding locate
kept_stand file kept from to is o y has k l =
    let p = each_placed kept from to 0 o y has k l in
    let none : 0 + p.behind ≡ p.behind = omega arith in
    ap (λ (place : Option ℕ). option_and_then (λ place. byte_of file place) place) (p.located ∙ ap Some none) ∙ prefix_byte file (kept_bytes kept) p.behind is ∙ p.held

-- ---- records that stand fill their runs

module _ (g : ℕ → Option ℕ) where
  front_filled : (x : ℕ × Record) (xs : Records) (runs : List Run) → Stands g x.0 (spelling x.1) → RunByRun g runs xs → RunByRun g (in_front x.0 (length (spelling x.1)) runs) (x ∷ xs)
  front_filled x xs [] stands none = (x ∷ [], [], ap (λ (l : Records). x ∷ l) none, (refl, stands, refl), refl)
  front_filled x xs (run ∷ runs) stands (here, later, is, ends, rest) = by (x.0 + length (spelling x.1) == run.at) refl
    where
      by : (b : Bool) → (x.0 + length (spelling x.1) == run.at) ≡ b
          → RunByRun g (cond b (record { at = x.0; length = length (spelling x.1) + run.length } ∷ runs) (record { at = x.0; length = length (spelling x.1) } ∷ run ∷ runs)) (x ∷ xs)
      by true e =
          let same = touch (x.0 + length (spelling x.1)) run.at e in
          let end : run.at + run.length ≡ x.0 + (length (spelling x.1) + run.length) = omega (arith, same) in (
            x ∷ here,
            later,
            ap (λ (l : Records). x ∷ l) is,
            (refl, stands, subst (λ (n : ℕ). EndToEnd g (x.0 + length (spelling x.1)) here n) end (subst (λ (n : ℕ). EndToEnd g n here (run.at + run.length)) (sym same) ends)),
            rest,
          )
      by false e = (x ∷ [], xs, refl, (refl, stands, refl), (here, later, is, ends, rest))

  pub runs_filled : (kept : Records) → ((y : ℕ × Record) → Has kept y → Stands g y.0 (spelling y.1)) → RunByRun g (runs_of kept) kept
  runs_filled [] each = refl
  runs_filled (x ∷ xs) each = front_filled x xs (runs_of xs) (each x (inl refl)) (runs_filled xs (λ y has. each y (inr has)))

-- ---- rows

move_rows : (h m n p q : ℕ) (runs : List Run) → m ≡ n → p ≡ q → RowsFitFrom h m p (placed p runs) → RowsFitFrom h n q (placed q runs)
move_rows h m n p q runs e f fits = subst (λ (k : ℕ). RowsFitFrom h n k (placed k runs)) f (subst (λ (k : ℕ). RowsFitFrom h k p (placed p runs)) e fits)

-- the rows of runs, with one more in front, that is joined to the first where they touch
pub front_rows : (h from place at n : ℕ) (runs : List Run) → from ≤ at → 0 < n → at + n ≤ h → RowsFitFrom h (at + n) (place + n) (placed (place + n) runs) → RowsFitFrom h from place (placed place (in_front at n runs))
front_rows h from place at n [] low some high fits = (record { apart = low; some = some; below = high; placed = refl }, tt)
front_rows h from place at n (run ∷ runs) low some high (one, rest) = by (at + n == run.at) refl
  where
    by : (b : Bool) → (at + n == run.at) ≡ b → RowsFitFrom h from place (placed place (cond b (record { at = at; length = n + run.length } ∷ runs) (record { at = at; length = n } ∷ run ∷ runs)))
    by true e =
        let same = touch (at + n) run.at e in
        let below = one.below in (
          record { apart = low; some = omega (arith, some); below = omega (arith, below, same); placed = refl },
          move_rows h (run.at + run.length + 1) (at + (n + run.length) + 1) (place + n + run.length) (place + (n + run.length)) runs (omega (arith, same)) (omega arith) rest,
        )
    by false e =
        let differ = apart (at + n) run.at e in
        let above = one.apart in (
          record { apart = low; some = some; below = high; placed = refl },
          (record { apart = omega (arith, differ, above); some = one.some; below = one.below; placed = one.placed }, rest),
        )

pub rows_in_order : (h from place : ℕ) (kept : Records) → Ordered from kept h → RowsFitFrom h from place (placed place (runs_of kept))
rows_in_order h from place [] o = tt
rows_in_order h from place (x ∷ xs) (low, some, o) =
    front_rows h from place x.0 (length (spelling x.1)) (runs_of xs) low some (ordered_up (x.0 + length (spelling x.1)) xs h o) (rows_in_order h (x.0 + length (spelling x.1)) (place + length (spelling x.1)) xs o)

abbrev pub RowNumbers : Row → Type 0
RowNumbers row = IsU64 row.at × IsU64 row.length × IsU64 row.place

pub rows_numbers : (h from place : ℕ) (rows : List Row) → h < 2 ^ 64 → place ≤ from → RowsFitFrom h from place rows → AllByRecursion RowNumbers rows
rows_numbers h from place [] small low fits = tt
rows_numbers h from place (row ∷ rows) small low (one, rest) =
    let above = one.apart in
    let below = one.below in
    let some = one.some in
    let is = one.placed in (
      (omega (arith, below, small, some), omega (arith, below, small), omega (arith, below, small, some, is, low, above)),
      rows_numbers h (row.at + row.length + 1) (place + row.length) rows small (omega (arith, low, above)) rest,
    )

pub runs_again : (place : ℕ) (runs : List Run) → map run_of (placed place runs) ≡ runs
runs_again place [] = refl
runs_again place (run ∷ runs) = ap (λ (l : List Run). run ∷ l) (runs_again (place + run.length) runs)

pub rows_many : (place : ℕ) (runs : List Run) → length (placed place runs) ≡ length runs
rows_many place [] = refl
rows_many place (run ∷ runs) = ap suc (rows_many (place + run.length) runs)

more_total : (run : Run) (runs : List Run) → total (run ∷ runs) ≡ run.length + total runs
more_total run runs = sum_by-cons (λ (run : Run). run.length) run runs

pub front_total : (at n : ℕ) (runs : List Run) → total (in_front at n runs) ≡ n + total runs
front_total at n [] = more_total (record { at = at; length = n }) []
front_total at n (run ∷ runs) = by (at + n == run.at)
  where
    by : (b : Bool) → total (cond b (record { at = at; length = n + run.length } ∷ runs) (record { at = at; length = n } ∷ run ∷ runs)) ≡ n + total (run ∷ runs)
    by true =
        let all = more_total (record { at = at; length = n + run.length }) runs in
        let one = more_total run runs in
        let sum : n + run.length + total runs ≡ n + (run.length + total runs) = omega arith in
        all ∙ sum ∙ ap (λ (k : ℕ). n + k) (sym one)
    by false = more_total (record { at = at; length = n }) (run ∷ runs)

pub rows_total : (kept : Records) → total (runs_of kept) ≡ length (kept_bytes kept)
rows_total [] = refl
rows_total (x ∷ xs) = front_total x.0 (length (spelling x.1)) (runs_of xs) ∙ ap (λ (n : ℕ). length (spelling x.1) + n) (rows_total xs) ∙ sym (length-append (spelling x.1) (kept_bytes xs))
