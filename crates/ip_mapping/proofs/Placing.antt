-- Rows while they are made of runs, and how many bytes they fill.
use Rattle.std.proofs.Common.{◌≡◌, ℕ, zero, suc, ◌+◌, ◌-◌, ◌<◌, ◌≤◌, leb, nat_eq, List, [], ◌∷◌, ◌++◌, length, drop, get_or, refl, sym, ap, ◌∙◌, subst, arith, append_assoc, append-nil}
use Rattle.std.specs.Prelude.{map, Bool, false, IsTrue}
use Rattle.std.proofs.lemmas.Bool.Decides.{nat_tests}
use Rattle.std.proofs.lemmas.List.{drop_all}
use Rattle.std.proofs.lemmas.List.Sums.{sum_by-cons}
use Rattle.ip_image.specs.declared.run.Row.{Row}
use Rattle.ip_image.specs.declared.run.Run.{Run}
use Rattle.ip_image.specs.Virtual.{placed, run_of, total, RowsFit, RowsFitFrom}

-- the rows of the runs that are left, behind those that are made, are all; they are in order
pub record Placed (h place : ℕ) (made : List Row) (all left : List Run) : Type 0 where
  pub is : made ++ placed place left ≡ placed 0 all
  pub from : ℕ
  pub below : place ≤ from
  pub fits : RowsFitFrom h from place (placed place left)

pub none_placed : (h : ℕ) (made : List Row) (all : List Run) → made ≡ [] → RowsFit h (placed 0 all) → Placed h 0 made all all
none_placed h made all none f = record {
  is = ap (λ rows. rows ++ placed 0 all) none;
  from = 0;
  below = omega arith;
  fits = f;
}

module _ (h place : ℕ) (made : List Row) (all left rest : List Run) (run : Run) (so_far : Placed h place made all left) (first : left ≡ run ∷ rest) where
  abbrev row : Row
  row = record { at = run.at; length = run.length; place = place }

  fits_now : RowsFitFrom h so_far.from place (row ∷ placed (place + run.length) rest)
  fits_now = subst (λ runs. RowsFitFrom h so_far.from place (placed place runs)) first so_far.fits

  pub one_placed : (more : List Row) → more ≡ made ++ record { at = run.at; length = run.length; place = place } ∷ [] → Placed h (place + run.length) more all rest
  one_placed more m =
      let apart = fits_now.0.apart in
      let below = so_far.below in
      record {
        is = ap (λ rows. rows ++ placed (place + run.length) rest) m
            ∙ append_assoc made (row ∷ []) (placed (place + run.length) rest)
            ∙ ap (λ runs. made ++ placed place runs) (sym first)
            ∙ so_far.is;
        from = run.at + run.length + 1;
        below = omega (arith, apart, below);
        fits = fits_now.1;
      }

  pub place_small : h < 18446744073709551616 → place + run.length < 18446744073709551616
  place_small l =
      let apart = fits_now.0.apart in
      let fit = fits_now.0.below in
      let below = so_far.below in
      omega (arith, apart, fit, below, l)

pub all_placed : (h place i : ℕ) (made : List Row) (runs : List Run) → Placed h place made runs (drop i runs) → length runs ≤ i → made ≡ placed 0 runs
all_placed h place i made runs so_far l =
    sym (append-nil made) ∙ ap (λ rs. made ++ placed place rs) (sym (drop_all i runs l)) ∙ so_far.is

-- behind the last row the prefix ends
ends_from : (h from place : ℕ) (rows : List Row) → RowsFitFrom h from place rows → (i : ℕ) (d : Row) → length rows ≡ suc i
    → (get_or rows i d).place + (get_or rows i d).length ≡ place + total (map run_of rows)
ends_from h from place [] f i d last = absurd (omega (arith, last))
ends_from h from place (x ∷ []) f zero d last = let p = f.0.placed in omega (arith, p)
ends_from h from place (x ∷ y ∷ rows) f zero d last = absurd (omega (arith, last))
ends_from h from place (x ∷ rows) f (suc i) d last =
    let deep = ends_from h (x.at + x.length + 1) (place + x.length) rows f.1 i d (omega (arith, last)) in
    let all = sum_by-cons (λ (run : Run). run.length) (run_of x) (map run_of rows) in
    omega (arith, deep, all)

module _ (h : ℕ) (rows : List Row) (f : RowsFit h rows) (row : Row) (some : 0 < length rows) (is : row ≡ get_or rows (length rows - 1) row) where
  last : length rows ≡ suc (length rows - 1)
  last = omega (arith, some)

  pub ends : row.place + row.length ≡ total (map run_of rows)
  ends = subst (λ (r : Row). r.place + r.length ≡ total (map run_of rows)) (sym is) (ends_from h 0 0 rows f (length rows - 1) row last ∙ omega arith)

-- the test of it, where the last place is at or below the length, and where it is not
module _ (place n length sum : ℕ) (is : place + n ≡ sum) where
  pub filled : place ≤ length → (IsTrue (nat_eq (length - place) n) → sum ≡ length) × (sum ≡ length → IsTrue (nat_eq (length - place) n))
  filled l = (λ e. grind (arith, nat_tests), λ e. grind (arith, nat_tests))

  pub not_filled : (b : Bool) → length < place → b ≡ leb place length → (IsTrue b → sum ≡ length) × (sum ≡ length → IsTrue b)
  not_filled b l same = (λ e. grind (arith, nat_tests), λ e. grind (arith, nat_tests))
