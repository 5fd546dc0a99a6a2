-- The run that has an offset, among rows in order.
use Rattle.std.proofs.Common.{◌≡◌, ℕ, zero, suc, ◌+◌, ◌-◌, ◌<◌, ◌≤◌, ◌≢◌, Bool, true, false, leb, List, [], ◌∷◌, length, get_or, refl, sym, ap, ◌∙◌, subst, Option, Some, None, arith}
use Rattle.std.specs.Prelude.{map, nat_le, nat_lt, ◌&&◌, if◌then◌else◌}
use Rattle.std.proofs.lemmas.Bool.Decides.{nat_tests}
use Rattle.std.specs.List.Sorted.{IsNonDecreasingBy, IsPartitionPoint}
use Rattle.ip_image.specs.declared.run.Row.{Row}
use Rattle.ip_image.specs.Virtual.{run_of, RowsFit, RowsFitFrom, locate, locate_from}
use Rattle.ip_mapping.specs.Parsing.{Fields, IsRowAt}

-- every row begins where it may
pub begins : (h from place : ℕ) (rows : List Row) → RowsFitFrom h from place rows → (k : ℕ) (d : Row) → k < length rows → from ≤ (get_or rows k d).at
begins h from place [] f k d l = absurd (omega (arith, l))
begins h from place (x ∷ rows) f zero d l = f.0.apart
begins h from place (x ∷ rows) f (suc k) d l =
    let later = begins h (x.at + x.length + 1) (place + x.length) rows f.1 k d (omega (arith, l)) in
    let apart = f.0.apart in
    omega (arith, later, apart)

pub rising : (h from place : ℕ) (rows : List Row) → RowsFitFrom h from place rows → IsNonDecreasingBy (λ (row : Row). row.at) rows
rising h from place [] f i j d l m = absurd (omega (arith, m))
rising h from place (x ∷ rows) f zero zero d l m = omega arith
rising h from place (x ∷ rows) f zero (suc j) d l m = let b = begins h (x.at + x.length + 1) (place + x.length) rows f.1 j d (omega (arith, m)) in omega (arith, b)
rising h from place (x ∷ rows) f (suc i) zero d l m = absurd (omega (arith, l))
rising h from place (x ∷ rows) f (suc i) (suc j) d l m = rising h (x.at + x.length + 1) (place + x.length) rows f.1 i j d (omega (arith, l)) (omega (arith, m))

-- of a row in order: its run ends at or below the horizon, and its place is no greater than its offset
bounds : (h from place : ℕ) (rows : List Row) → place ≤ from → RowsFitFrom h from place rows → (k : ℕ) (d : Row) → k < length rows
    → ((get_or rows k d).at + (get_or rows k d).length ≤ h) × ((get_or rows k d).place ≤ (get_or rows k d).at)
bounds h from place [] b f k d l = absurd (omega (arith, l))
bounds h from place (x ∷ rows) b f zero d l =
    let apart = f.0.apart in
    let placed = f.0.placed in
    (f.0.below, omega (arith, apart, placed, b))
bounds h from place (x ∷ rows) b f (suc k) d l =
    let apart = f.0.apart in
    bounds h (x.at + x.length + 1) (place + x.length) rows (omega (arith, apart, b)) f.1 k d (omega (arith, l))

-- ---- the test at one row

less : (m n : ℕ) → nat_lt m n ≡ true → m < n
less m n e = grind (arith, nat_tests)

no_less : (m n : ℕ) → nat_lt m n ≡ false → n ≤ m
no_less m n e = grind (arith, nat_tests)

passed : (x : Row) (at place : ℕ) (later : Option ℕ) → x.at ≤ at → at < x.at + x.length → (if nat_le x.at at && nat_lt at (x.at + x.length) then Some (place + (at - x.at)) else later) ≡ Some (place + (at - x.at))
passed x at place later l m = grind (arith, nat_tests)

below : (x : Row) (at place : ℕ) (later : Option ℕ) → at < x.at → (if nat_le x.at at && nat_lt at (x.at + x.length) then Some (place + (at - x.at)) else later) ≡ later
below x at place later l = grind (arith, nat_tests)

above : (x : Row) (at place : ℕ) (later : Option ℕ) → x.at + x.length ≤ at → (if nat_le x.at at && nat_lt at (x.at + x.length) then Some (place + (at - x.at)) else later) ≡ later
above x at place later l = grind (arith, nat_tests)

-- ---- all rows

none_from : (at place : ℕ) (rows : List Row) → ((k : ℕ) (d : Row) → k < length rows → at < (get_or rows k d).at) → locate_from place (map run_of rows) at ≡ None
none_from at place [] h = refl
none_from at place (x ∷ rows) h =
    below x at place (locate_from (place + x.length) (map run_of rows) at) (h 0 x (omega arith)) ∙ none_from at (place + x.length) rows (λ k d l. h (suc k) d (omega (arith, l)))

-- what a lookup gives by the last row that begins at or below the offset
pub by_row : Row → ℕ → Option ℕ
by_row row at = if nat_lt (at - row.at) row.length then Some (row.place + (at - row.at)) else None

module _ (h at : ℕ) where
  pub located : (from place : ℕ) (rows : List Row) → RowsFitFrom h from place rows → (i : ℕ) (d : Row) → i < length rows → (get_or rows i d).at ≤ at
      → ((k : ℕ) (d : Row) → i < k → k < length rows → at < (get_or rows k d).at) → locate_from place (map run_of rows) at ≡ by_row (get_or rows i d) at
  unfolding by_row
  located from place [] f i d l low high = absurd (omega (arith, l))
  located from place (x ∷ rows) f zero d l low high = by (nat_lt (at - x.at) x.length) refl
    where
      rest : locate_from (place + x.length) (map run_of rows) at ≡ None
      rest = none_from at (place + x.length) rows (λ k e m. high (suc k) e (omega arith) (omega (arith, m)))

      by : (b : Bool) → nat_lt (at - x.at) x.length ≡ b → locate_from place (map run_of (x ∷ rows)) at ≡ (if b then Some (x.place + (at - x.at)) else None)
      by true e = let p = f.0.placed in passed x at place (locate_from (place + x.length) (map run_of rows) at) low (let l' = less (at - x.at) x.length e in omega (arith, low, l')) ∙ ap (λ n. Some (n + (at - x.at))) (sym p)
      by false e = above x at place (locate_from (place + x.length) (map run_of rows) at) (let l' = no_less (at - x.at) x.length e in omega (arith, low, l')) ∙ rest
  located from place (x ∷ rows) f (suc i) d l low high =
      let b = begins h (x.at + x.length + 1) (place + x.length) rows f.1 i d (omega (arith, l)) in
      above x at place (locate_from (place + x.length) (map run_of rows) at) (omega (arith, b, low))
      ∙ located (x.at + x.length + 1) (place + x.length) rows f.1 i d (omega (arith, l)) low (λ k e m n. high (suc k) e (omega (arith, m)) (omega (arith, n)))

pub not_located : (at : ℕ) (rows : List Row) → ((k : ℕ) (d : Row) → k < length rows → at < (get_or rows k d).at) → locate (map run_of rows) at ≡ None
unfolding locate
not_located at rows h = none_from at 0 rows h

pub located_whole : (h at : ℕ) (rows : List Row) → RowsFit h rows → (i : ℕ) (d : Row) → i < length rows → (get_or rows i d).at ≤ at
    → ((k : ℕ) (d : Row) → i < k → k < length rows → at < (get_or rows k d).at) → locate (map run_of rows) at ≡ by_row (get_or rows i d) at
unfolding locate
located_whole h at rows f i d l low high = located h at 0 0 rows f i d l low high

-- ---- the row that a binary search finds

-- the first i rows begin at or below the offset, and no other
pub record Split (rows : List Row) (at i : ℕ) : Type 0 where
  pub bound : i ≤ length rows
  pub low : (k : ℕ) (d : Row) → k < i → (get_or rows k d).at ≤ at
  pub high : (k : ℕ) (d : Row) → i ≤ k → k < length rows → at < (get_or rows k d).at

le_from_test : (m n : ℕ) → leb m n ≡ true → m ≤ n
le_from_test m n e = grind (arith, nat_tests)

lt_from_test : (m n : ℕ) → leb m n ≡ false → n < m
lt_from_test m n e = grind (arith, nat_tests)

pub split_of : (rows : List Row) (at i : ℕ) → i ≤ length rows → IsPartitionPoint (λ (row : Row). leb row.at at ≡ true) (λ row. leb row.at at ≡ false) rows i → Split rows at i
split_of rows at i b p = record {
  bound = b;
  low = λ k d l. le_from_test (get_or rows k d).at at (p.0 k d (omega arith) l);
  high = λ k d l m. lt_from_test (get_or rows k d).at at (p.1 k d l m);
}

apart_rows : (h from place : ℕ) (rows : List Row) → RowsFitFrom h from place rows → (i j : ℕ) (d e : Row) → i < j → j < length rows
    → (get_or rows i d).at + (get_or rows i d).length < (get_or rows j e).at
apart_rows h from place [] f i j d e l m = absurd (omega (arith, m))
apart_rows h from place (x ∷ rows) f i zero d e l m = absurd (omega (arith, l))
apart_rows h from place (x ∷ rows) f zero (suc j) d e l m =
    let b = begins h (x.at + x.length + 1) (place + x.length) rows f.1 j e (omega (arith, m)) in
    omega (arith, b)
apart_rows h from place (x ∷ rows) f (suc i) (suc j) d e l m = apart_rows h (x.at + x.length + 1) (place + x.length) rows f.1 i j d e (omega (arith, l)) (omega (arith, m))

-- within a row's run, and at the first offset behind it, the lookup goes by that row
by_its_row : (h : ℕ) (rows : List Row) → RowsFit h rows → (i : ℕ) (d : Row) → i < length rows → (k : ℕ) → (get_or rows i d).at ≤ k
    → k ≤ (get_or rows i d).at + (get_or rows i d).length → locate (map run_of rows) k ≡ by_row (get_or rows i d) k
by_its_row h rows f i d l k low high =
    located_whole h k rows f i d l low (λ j e m n. let a = apart_rows h 0 0 rows f i j d e m n in omega (arith, a, high))

inside_row : (row : Row) (k : ℕ) → row.at ≤ k → k < row.at + row.length → by_row row k ≡ Some (row.place + (k - row.at))
unfolding by_row
inside_row row k l m = grind (arith, nat_tests)

behind_row : (row : Row) (k : ℕ) → row.at + row.length ≤ k → by_row row k ≡ None
unfolding by_row
behind_row row k l = grind (arith, nat_tests)

module _ (m : Fields) (at i : ℕ) (row : Row) (fits : RowsFit m.horizon m.rows) (split : Split m.rows at i) (some : i ≢ 0) (is : row ≡ get_or m.rows (i - 1) row) where
  inside : i - 1 < length m.rows
  inside = let b = split.bound in omega (arith, b, some)

  pub begins_below : row.at ≤ at
  begins_below = subst (λ (r : Row). r.at ≤ at) (sym is) (split.low (i - 1) row (omega (arith, some)))

  places : (k : ℕ) → row.at ≤ k → k ≤ row.at + row.length → locate (map run_of m.rows) k ≡ by_row row k
  places = subst (λ (r : Row). (k : ℕ) → r.at ≤ k → k ≤ r.at + r.length → locate (map run_of m.rows) k ≡ by_row r k) (sym is)
      (by_its_row m.horizon m.rows fits (i - 1) row inside)

  pub is_row_at : at - row.at < row.length → IsRowAt m at row
  is_row_at l =
      let low = begins_below in
      let b : (row.at + row.length ≤ m.horizon) × (row.place ≤ row.at) =
      subst (λ (r : Row). (r.at + r.length ≤ m.horizon) × (r.place ≤ r.at)) (sym is) (bounds m.horizon 0 0 m.rows (omega arith) fits (i - 1) row inside) in
      record {
        one = (i - 1, inside, sym is);
        from = begins_below;
        to = omega (arith, low, l);
        below = b.0;
        place = b.1;
        side_by_side = λ k p q. places k p (omega (arith, q)) ∙ inside_row row k p q;
        missing = places (row.at + row.length) (omega arith) (omega arith) ∙ behind_row row (row.at + row.length) (omega arith);
      }

  pub no_row_at : row.length ≤ at - row.at → locate (map run_of m.rows) at ≡ None
  no_row_at l =
      let low = begins_below in
      located_whole m.horizon at m.rows fits (i - 1) row inside (split.low (i - 1) row (omega (arith, some))) (λ k d p q. split.high k d (omega (arith, p, some)) q)
      ∙ ap (λ r. by_row r at) (sym is) ∙ behind_row row at (omega (arith, l, low))

pub nothing_below : (at : ℕ) (rows : List Row) → Split rows at 0 → locate (map run_of rows) at ≡ None
nothing_below at rows split = not_located at rows (λ k d l. split.high k d (omega arith) l)
