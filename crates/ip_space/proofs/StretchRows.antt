-- The stretches of a space, by the rows of its mapping.
--     row_order, last_order      those before a run, and before the last, end where it begins at the latest.      row_ends      a run ends at or below the end
--     last_is, no_stretch      the one behind the runs, and that there are no more
--     stretch_lies      each offset of a stretch lies in some file
use Rattle.std.proofs.Common.{◌≡◌, ℕ, zero, suc, ◌+◌, ◌-◌, ◌<◌, ◌≤◌, Bool, true, false, List, [], ◌∷◌, ◌++◌, length, map, take, get_or, refl, sym, ap, subst, inl, inr, arith}
use Rattle.std.specs.Prelude.{Option, Some, None, is_some, IsSome, slice_get, option_map, nat_le, nat_lt, ◌&&◌, if◌then◌else◌}
use Rattle.std.proofs.lemmas.Bool.{cases_lt}
use Rattle.std.proofs.lemmas.Bool.Decides.{nat_tests}
use Rattle.ip_ground.specs.declared.names.FileName.{FileName}
use Rattle.ip_ground.specs.declared.names.FileName.TheVariants.{Prefix}
use Rattle.ip_image.specs.declared.layout.Layout.{Layout}
use Rattle.ip_image.specs.declared.run.Row.{Row}
use Rattle.ip_image.specs.declared.run.Run.{Run}
use Rattle.ip_image.specs.Virtual.{run_of, RowsFit, RowsFitFrom, locate, locate_from, lies_at}
use Rattle.ip_mapping.proofs.Lookup.{begins}
use Rattle.ip_spec.specs.declared.record.Record.{Record}
use Rattle.ip_space.specs.SpaceView.{SpaceView, stretches_of, AreBelow}
use Rattle.ip_space.proofs.Lying.{lies_above, lies_below}

module _ (last : Run) where
  numbered_last : (rows : List Row) → slice_get (map run_of rows ++ last ∷ []) (length rows) ≡ Some last
  numbered_last [] = refl
  numbered_last (x ∷ rows) = numbered_last rows

  none_behind : (rows : List Row) (i : ℕ) → length rows < i → slice_get (map run_of rows ++ last ∷ []) i ≡ None
  none_behind [] zero behind = absurd (omega (arith, behind))
  none_behind [] (suc i) behind = refl
  none_behind (x ∷ rows) zero behind = absurd (omega (arith, behind))
  none_behind (x ∷ rows) (suc i) behind = none_behind rows i (omega (arith, behind))

  below_row : (h from place : ℕ) (rows : List Row) → RowsFitFrom h from place rows → (i : ℕ) (d : Row) → i < length rows → AreBelow (get_or rows i d).at (take i (map run_of rows ++ last ∷ []))
  below_row h from place [] fits i d below = absurd (omega (arith, below))
  below_row h from place (x ∷ rows) fits zero d below = tt
  below_row h from place (x ∷ rows) fits (suc i) d below =
      let start = begins h (x.at + x.length + 1) (place + x.length) rows fits.1 i d (omega (arith, below)) in
      (omega (arith, start), below_row h (x.at + x.length + 1) (place + x.length) rows fits.1 i d (omega (arith, below)))

  below_last : (h from place : ℕ) (rows : List Row) → RowsFitFrom h from place rows → AreBelow h (take (length rows) (map run_of rows ++ last ∷ []))
  below_last h from place [] fits = tt
  below_last h from place (x ∷ rows) fits = (fits.0.below, below_last h (x.at + x.length + 1) (place + x.length) rows fits.1)

row_inside : (h from place : ℕ) (rows : List Row) → RowsFitFrom h from place rows → (i : ℕ) (d : Row) → i < length rows → (get_or rows i d).at + (get_or rows i d).length ≤ h
row_inside h from place [] fits i d below = absurd (omega (arith, below))
row_inside h from place (x ∷ rows) fits zero d below = fits.0.below
row_inside h from place (x ∷ rows) fits (suc i) d below = row_inside h (x.at + x.length + 1) (place + x.length) rows fits.1 i d (omega (arith, below))

-- the space of a layout and of rows in order
module _ (layout : Layout) (order : layout.horizon ≤ layout.end) (rows : List Row) (fits : RowsFit layout.horizon rows) (kept : List (ℕ × Record)) (space : SpaceView) (is : record { layout = layout; runs = map run_of rows; kept = kept } ≡ space) where
  abbrev last : Run
  last = record { at = layout.horizon; length = layout.end - layout.horizon }

  pub row_order : (i : ℕ) (d : Row) → i < length rows → AreBelow (get_or rows i d).at (take i (stretches_of space))
  row_order i d below = subst (λ (s : SpaceView). AreBelow (get_or rows i d).at (take i (stretches_of s))) is (below_row last layout.horizon 0 0 rows fits i d below)

  pub row_ends : (i : ℕ) (d : Row) → i < length rows → (get_or rows i d).at + (get_or rows i d).length ≤ space.layout.end
  row_ends i d below =
      let inside = row_inside layout.horizon 0 0 rows fits i d below in
      subst (λ (s : SpaceView). (get_or rows i d).at + (get_or rows i d).length ≤ s.layout.end) is (omega (arith, inside, order))

  pub no_stretch : (i : ℕ) → length rows < i → None ≡ slice_get (stretches_of space) i
  no_stretch i behind = subst (λ (s : SpaceView). None ≡ slice_get (stretches_of s) i) is (sym (none_behind last rows i behind))

  pub last_is : (i : ℕ) → i ≡ length rows → Some last ≡ slice_get (stretches_of space) i
  last_is i at = subst (λ (s : SpaceView). Some last ≡ slice_get (stretches_of s) i) is (subst (λ (n : ℕ). Some last ≡ slice_get (map run_of rows ++ last ∷ []) n) (sym at) (sym (numbered_last last rows)))

  pub last_order : (i : ℕ) → i ≡ length rows → AreBelow layout.horizon (take i (stretches_of space))
  last_order i at =
      subst (λ (s : SpaceView). AreBelow layout.horizon (take i (stretches_of s))) is
      (subst (λ (n : ℕ). AreBelow layout.horizon (take n (map run_of rows ++ last ∷ []))) (sym at) (below_last last layout.horizon 0 0 rows fits))

-- ---- where they lie

same_some : (x y : Run) → Some x ≡ Some y → x ≡ y
same_some x y e = cc

module _ (at : ℕ) where
  apart : (run : Run) → run.at ≤ at → at < run.at + run.length → (nat_le run.at at && nat_lt at (run.at + run.length)) ≡ false → ⊥
  apart run low high other = grind (arith, nat_tests)

  pub located_inside : (place : ℕ) (runs : List Run) (behind : Run) (i : ℕ) (run : Run) → slice_get (runs ++ behind ∷ []) i ≡ Some run → run.at ≤ at → at < run.at + run.length → at < behind.at
      → IsSome (locate_from place runs at)
  located_inside place [] behind zero run is low high below = let same = ap (λ (r : Run). r.at) (same_some behind run is) in absurd (omega (arith, same, low, below))
  located_inside place [] behind (suc i) run is low high below = absurd (cc (is))
  located_inside place (r ∷ runs) behind i run is low high below =
      by (nat_le r.at at && nat_lt at (r.at + r.length)) refl i is (λ i is. located_inside (place + r.length) runs behind i run is low high below)
    where
      by : (b : Bool) → (nat_le r.at at && nat_lt at (r.at + r.length)) ≡ b → (i : ℕ) → slice_get (r ∷ runs ++ behind ∷ []) i ≡ Some run
          → ((i : ℕ) → slice_get (runs ++ behind ∷ []) i ≡ Some run → IsSome (locate_from (place + r.length) runs at))
          → IsSome (if b then Some (place + (at - r.at)) else locate_from (place + r.length) runs at)
      by true test i is later = refl
      by false test zero is later =
          let same = same_some r run is in absurd (apart r (subst (λ (x : Run). x.at ≤ at) (sym same) low) (subst (λ (x : Run). at < x.at + x.length) (sym same) high) test)
      by false test (suc i) is later = later i is

abbrev lying : ℕ → Option ℕ → Option (FileName × ℕ)
lying live o = option_map (λ place. (Prefix live, place)) o

some_of : (o : Option ℕ) (live : ℕ) → IsSome o → IsSome (lying live o)
some_of None live some = some
some_of (Some place) live some = refl

pub stretch_lies : (space : SpaceView) (number at : ℕ) (run : Run) → slice_get (stretches_of space) number ≡ Some run → run.at ≤ at → at < run.at + run.length → IsSome (lies_at space.layout space.runs at)
unfolding locate
stretch_lies space number at run is low high = elim (cases_lt at space.layout.horizon) [
  | inl below ↦
      let behind : Run = record { at = space.layout.horizon; length = space.layout.end - space.layout.horizon } in
      let some : IsSome (locate space.runs at) = located_inside at 0 space.runs behind number run is low high below in
      subst (λ (o : Option (FileName × ℕ)). IsSome o) (sym (lies_below space.layout space.runs at (locate space.runs at) below refl)) (some_of (locate space.runs at) space.layout.live some)
  | inr above ↦ ap is_some (lies_above space.layout space.runs at above)
]
