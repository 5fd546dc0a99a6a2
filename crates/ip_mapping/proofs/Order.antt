-- Rows in order.
--     next_from from rows, next_place place rows      where a further row may begin, and its place
use Rattle.std.proofs.Common.{◌≡◌, ℕ, zero, suc, ◌+◌, ◌*◌, ◌≤◌, List, [], ◌∷◌, ◌++◌, length, take, refl, sym, ap, ◌∙◌, subst, arith}
use Rattle.std.specs.Prelude.{min}
use Rattle.ip_spec.specs.Record.{IsU64}
use Rattle.ip_image.specs.declared.run.Row.{Row}
use Rattle.ip_image.specs.Virtual.{RowFits, RowsFit, RowsFitFrom}
use Rattle.ip_mapping.specs.Parsing.{AreNumbers}

abbrev pub next_from : ℕ → List Row → ℕ
next_from from [] = from
next_from from (row ∷ rows) = next_from (row.at + row.length + 1) rows

abbrev pub next_place : ℕ → List Row → ℕ
next_place place [] = place
next_place place (row ∷ rows) = next_place (place + row.length) rows

-- the greatest number of eight bytes
abbrev pub greatest : ℕ
greatest = 18446744073709551615

from_push : (from : ℕ) (rows : List Row) (row : Row) → next_from from (rows ++ row ∷ []) ≡ row.at + row.length + 1
from_push from [] row = refl
from_push from (x ∷ rows) row = from_push (x.at + x.length + 1) rows row

place_push : (place : ℕ) (rows : List Row) (row : Row) → next_place place (rows ++ row ∷ []) ≡ next_place place rows + row.length
place_push place [] row = refl
place_push place (x ∷ rows) row = place_push (place + x.length) rows row

fits_push : (h from place : ℕ) (rows : List Row) (row : Row) → RowsFitFrom h from place rows → RowFits h (next_from from rows) (next_place place rows) row → RowsFitFrom h from place (rows ++ row ∷ [])
fits_push h from place [] row f r = (r, tt)
fits_push h from place (x ∷ rows) row f r = (f.0, fits_push h (x.at + x.length + 1) (place + x.length) rows row f.1 r)

fits_last : (h from place : ℕ) (rows : List Row) (row : Row) → RowsFitFrom h from place (rows ++ row ∷ []) → RowFits h (next_from from rows) (next_place place rows) row
fits_last h from place [] row f = f.0
fits_last h from place (x ∷ rows) row f = fits_last h (x.at + x.length + 1) (place + x.length) rows row f.1

pub fits_take : (h from place k : ℕ) (rows : List Row) → RowsFitFrom h from place rows → RowsFitFrom h from place (take k rows)
fits_take h from place zero rows f = tt
fits_take h from place (suc k) [] f = tt
fits_take h from place (suc k) (x ∷ rows) f = (f.0, fits_take h (x.at + x.length + 1) (place + x.length) k rows f.1)

pub numbers_push : (rows : List Row) (row : Row) → AreNumbers rows → IsU64 row.at × IsU64 row.length × IsU64 row.place → AreNumbers (rows ++ row ∷ [])
numbers_push [] row a n = (n, tt)
numbers_push (x ∷ rows) row a n = (a.0, numbers_push rows row a.1 n)

pub numbers_both : (xs ys : List Row) → AreNumbers xs → AreNumbers ys → AreNumbers (xs ++ ys)
numbers_both [] ys a b = b
numbers_both (x ∷ xs) ys a b = (a.0, numbers_both xs ys a.1 b)

-- ---- a start that stands still at the greatest number

to_true : (h from place : ℕ) (row : Row) → h ≤ greatest → RowFits h (min from greatest) place row → RowFits h from place row
to_true h from place row l f =
    let apart = f.apart in
    let some = f.some in
    let below = f.below in
    record { apart = omega (arith, apart, some, below, l); some = f.some; below = f.below; placed = f.placed }

to_still : (h from place : ℕ) (row : Row) → RowFits h from place row → RowFits h (min from greatest) place row
to_still h from place row f =
    let apart = f.apart in
    record { apart = omega (arith, apart); some = f.some; below = f.below; placed = f.placed }

-- what is known of the rows so far, of where a further one may begin, and of its place
pub record SoFar (h from place : ℕ) (rows : List Row) : Type 0 where
  pub fits : RowsFit h rows
  pub from_is : from ≡ min (next_from 0 rows) greatest
  pub place_is : place ≡ next_place 0 rows
  pub below : place ≤ from

module _ (h from place : ℕ) (rows : List Row) (row : Row) (l : h ≤ greatest) (known : SoFar h from place rows) where
  pub one_more : RowFits h from place row → SoFar h (min (row.at + row.length + 1) greatest) (place + row.length) (rows ++ row ∷ [])
  one_more f =
      let g : RowFits h (min (next_from 0 rows) greatest) place row = subst (λ n. RowFits h n place row) known.from_is f in
      let t : RowFits h (next_from 0 rows) place row = to_true h (next_from 0 rows) place row l g in
      let apart = f.apart in
      let below = f.below in
      let b = known.below in
      record {
        fits = fits_push h 0 0 rows row known.fits (subst (λ n. RowFits h (next_from 0 rows) n row) known.place_is t);
        from_is = ap (λ n. min n greatest) (sym (from_push 0 rows row));
        place_is = ap (λ n. n + row.length) known.place_is ∙ sym (place_push 0 rows row);
        below = omega (arith, apart, below, b, l);
      }

  pub no_more : ¬ (RowFits h from place row) → ¬ (RowsFit h (rows ++ row ∷ []))
  no_more refused f =
      let last : RowFits h (next_from 0 rows) (next_place 0 rows) row = fits_last h 0 0 rows row f in
      let still : RowFits h (min (next_from 0 rows) greatest) (next_place 0 rows) row = to_still h (next_from 0 rows) (next_place 0 rows) row last in
      refused (subst (λ n. RowFits h n place row) (sym known.from_is) (subst (λ n. RowFits h (min (next_from 0 rows) greatest) n row) (sym known.place_is) still))

-- ---- numbers of rows that fit

pub numbers_fit : (h from place : ℕ) (rows : List Row) → h ≤ greatest → place ≤ from → RowsFitFrom h from place rows → AreNumbers rows
numbers_fit h from place [] l b f = tt
numbers_fit h from place (x ∷ rows) l b f =
    let apart = f.0.apart in
    let below = f.0.below in
    let placed = f.0.placed in
    ((omega (arith, below, l), omega (arith, below, l), omega (arith, apart, below, placed, b, l)), numbers_fit h (x.at + x.length + 1) (place + x.length) rows l (omega (arith, apart, b)) f.1)

count_from : (h from place : ℕ) (rows : List Row) → from ≤ h + 1 → RowsFitFrom h from place rows → 2 * length rows + from ≤ h + 2
count_from h from place [] b f = omega (arith, b)
count_from h from place (x ∷ rows) b f =
    let apart = f.0.apart in
    let some = f.0.some in
    let below = f.0.below in
    let later = count_from h (x.at + x.length + 1) (place + x.length) rows (omega (arith, below)) f.1 in
    omega (arith, apart, some, later)

pub count_fits : (h : ℕ) (rows : List Row) → h ≤ greatest → RowsFit h rows → IsU64 (length rows)
count_fits h rows l f = let c = count_from h 0 0 rows (omega arith) f in omega (arith, c, l)
