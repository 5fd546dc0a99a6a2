-- A mapping's file while it is written.
use Rattle.std.proofs.Common.{◌≡◌, ℕ, suc, ◌+◌, ◌<◌, ◌≤◌, List, [], ◌∷◌, ◌++◌, length, drop, get_or, refl, sym, ap, ◌∙◌, subst, arith, append_assoc, append-nil, drop-cons}
use Rattle.std.proofs.lemmas.List.{drop_all}
use Rattle.std.specs.Prelude.{flat_map}
use Rattle.ip_spec.specs.Path.{Bytes}
use Rattle.ip_image.specs.declared.run.Row.{Row}
use Rattle.ip_image.specs.declared.run.Run.{Run}
use Rattle.ip_image.specs.Virtual.{row_bytes, placed, mapping_bytes, RowsFit, RowsFitFrom}
use Rattle.ip_mapping.specs.Parsing.{head_bytes}
use Rattle.ip_mapping.proofs.Outcomes.{file_begins}

-- the rows of the runs that are left, behind what is written, make the file; they are in order
pub record Written (h e place : ℕ) (out : Bytes) (all left : List Run) : Type 0 where
  pub is : out ++ flat_map row_bytes (placed place left) ≡ mapping_bytes h e all
  pub from : ℕ
  pub below : place ≤ from
  pub fits : RowsFitFrom h from place (placed place left)

count_placed : (place : ℕ) (runs : List Run) → length (placed place runs) ≡ length runs
count_placed place [] = refl
count_placed place (run ∷ runs) = ap suc (count_placed (place + run.length) runs)

pub begun : (h e : ℕ) (out : Bytes) (all : List Run) → out ≡ head_bytes (record { horizon = h; end = e; rows = length all }) → RowsFit h (placed 0 all) → Written h e 0 out all all
begun h e out all is f = record {
  is = ap (λ bs. bs ++ flat_map row_bytes (placed 0 all)) (is ∙ ap (λ n. head_bytes (record { horizon = h; end = e; rows = n })) (sym (count_placed 0 all)))
      ∙ sym (file_begins (record { horizon = h; end = e; rows = placed 0 all }));
  from = 0;
  below = omega arith;
  fits = f;
}

module _ (h e place : ℕ) (out : Bytes) (all left rest : List Run) (run : Run) (so_far : Written h e place out all left) (first : left ≡ run ∷ rest) where
  abbrev row : Row
  row = record { at = run.at; length = run.length; place = place }

  fits_now : RowsFitFrom h so_far.from place (row ∷ placed (place + run.length) rest)
  fits_now = subst (λ runs. RowsFitFrom h so_far.from place (placed place runs)) first so_far.fits

  pub one_written : (more : Bytes) → more ≡ out ++ row_bytes (record { at = run.at; length = run.length; place = place }) → Written h e (place + run.length) more all rest
  one_written more m =
      let apart = fits_now.0.apart in
      let below = so_far.below in
      record {
        is = ap (λ bs. bs ++ flat_map row_bytes (placed (place + run.length) rest)) m
            ∙ append_assoc out (row_bytes row) (flat_map row_bytes (placed (place + run.length) rest))
            ∙ ap (λ runs. out ++ flat_map row_bytes (placed place runs)) (sym first)
            ∙ so_far.is;
        from = run.at + run.length + 1;
        below = omega (arith, apart, below);
        fits = fits_now.1;
      }

  pub total_fits : h < 18446744073709551616 → place + run.length < 18446744073709551616
  total_fits l =
      let apart = fits_now.0.apart in
      let fit = fits_now.0.below in
      let below = so_far.below in
      omega (arith, apart, fit, below, l)

pub next_run : (runs : List Run) (i : ℕ) → i < length runs → drop i runs ≡ get_or runs i (record { at = 0; length = 0 }) ∷ drop (i + 1) runs
next_run runs i l =
    let e : suc i ≡ i + 1 = omega arith in
    drop-cons runs i (record { at = 0; length = 0 }) l ∙ ap (λ k. get_or runs i (record { at = 0; length = 0 }) ∷ drop k runs) e

pub all_written : (h e place i : ℕ) (out : Bytes) (runs : List Run) → Written h e place out runs (drop i runs) → length runs ≤ i → out ≡ mapping_bytes h e runs
all_written h e place i out runs so_far l =
    sym (append-nil out) ∙ ap (λ rs. out ++ flat_map row_bytes (placed place rs)) (sym (drop_all i runs l)) ∙ so_far.is
