-- The live pair of an image, and the stretches of one that stands.
--     damaged_by      a bad pair is where the image is damaged.      one_mapping, one_rows, no_rows      its rows
--     stretches_stand      within each stretch records lie end to end
use Rattle.std.proofs.Common.{◌≡◌, ◌≢◌, ℕ, zero, suc, ◌+◌, ◌-◌, ◌<◌, ◌≤◌, List, [], ◌∷◌, ◌++◌, length, map, get_or, refl, sym, ◌∙◌, subst, arith}
use Rattle.std.specs.Prelude.{Contains, Option, Some}
use Rattle.std.specs.List.{AllByRecursion}
use Rattle.ip_ground.specs.declared.names.FileName.{FileName}
use Rattle.ip_ground.specs.declared.names.FileName.TheVariants.{Control}
use Rattle.ip_ground.specs.Contents.{Image}
use Rattle.ip_spec.specs.declared.record.Record.{Record}
use Rattle.ip_spec.specs.Path.{Bytes}
use Rattle.ip_spec.specs.Record.{Fits}
use Rattle.ip_spec.specs.TreeAt.{Records}
use Rattle.ip_image.specs.declared.layout.Layout.{Layout}
use Rattle.ip_image.specs.declared.run.Row.{Row}
use Rattle.ip_image.specs.declared.run.Run.{Run}
use Rattle.ip_image.specs.declared.slot.Slot.{Slot}
use Rattle.ip_image.specs.Slot.{IsSlot, IsLive, newest_version, layout_of}
use Rattle.ip_image.specs.Virtual.{run_of, mapping_file, RowsFitFrom, virtual_byte}
use Rattle.ip_image.specs.Standing.{RunByRun, Standing, Generation, MappingIs, DamagedAt, stretches}
use Rattle.ip_image.specs.Standing as standing
use Rattle.ip_image.specs.Stored.{stored}
use Rattle.ip_image.proofs.OneRepository.{good_fit, same_files}
use Rattle.ip_space.specs.SpaceView.{SpaceView, records_in}
use Rattle.ip_space.specs.Scanning.{RunsTo}
use Rattle.ip_space.specs.Pair.{IsBadPair, no_mapping, no_row, no_sum, no_prefix}
use Rattle.ip_space.proofs.Laws.{AllFit, Stretch, front_fit, rest_fit, runs_along}

-- ---- the live pair

pub damaged_by : (image : Image) (control : Bytes) (index : ℕ) (s : Slot) (file : FileName) (at : ℕ) → image Control ≡ Some control → IsLive control index s → s.live ≢ 0
    → IsBadPair image (layout_of s) file at → DamagedAt image file at
damaged_by image control index s file at held is live (no_mapping none) = standing.no_mapping control index s held is live none
damaged_by image control index s file at held is live (no_row before after row mapping fits bad) = standing.no_row control index s before after row held is live mapping fits bad
damaged_by image control index s file at held is live (no_sum rows mapping fits other) = standing.no_sum control index s rows held is live mapping fits other
damaged_by image control index s file at held is live (no_prefix rows mapping fits sum other) = standing.no_prefix control index s rows held is live mapping fits sum other

same_some : (x y : Bytes) → Some x ≡ Some y → x ≡ y
same_some x y e = cc

pub one_mapping : (image : Image) (s : Layout) (rows others : List Row) → MappingIs image s rows → MappingIs image s others → rows ≡ others
one_mapping image s rows others one two =
    same_files s.horizon one.end two.end rows others one.numbers two.numbers (one.count ∙ sym two.count) (same_some (mapping_file s.horizon one.end rows) (mapping_file s.horizon two.end others) (sym one.file ∙ two.file))

pub one_rows : (image : Image) (s : Layout) (rows others : List Row) → Generation image s rows → Generation image s others → rows ≡ others
one_rows image s rows others one two = by s.live refl
  where
    by : (n : ℕ) → s.live ≡ n → rows ≡ others
    by zero e = one.none e ∙ sym (two.none e)
    by (suc n) e = let live : s.live ≢ 0 = (λ z. absurd (omega (arith, e, z))) in one_mapping image s rows others (one.file live) (two.file live)

pub no_rows : (image : Image) (s : Slot) → IsSlot s → s.live ≡ 0 → Generation image (layout_of s) []
no_rows image s is none = record {
  file = λ live. absurd (live none);
  fits = tt;
  sum = sym (is.nothing_below none).1;
  prefix = λ live. absurd (live none);
  none = λ _ i. [];
}

-- ---- the stretches

some_stretch : (f : ℕ → Option ℕ) (runs : List Run) (run : Run) (records : Records) (i : ℕ) → i < length runs → get_or runs i run ≡ run → RunByRun f runs records → AllFit records → Stretch f run
some_stretch f [] run records i below here is fit = absurd (omega (arith, below))
some_stretch f (r ∷ runs) run records zero below here is fit =
    subst (Stretch f) here (record { records = is.0; lies = is.3; fit = front_fit is.0 is.1 (subst AllFit is.2 fit) })
some_stretch f (r ∷ runs) run records (suc i) below here is fit = some_stretch f runs run is.1 i (omega (arith, below)) here is.4 (rest_fit is.0 is.1 (subst AllFit is.2 fit))

-- none ends behind the end
inside_end : (h end from place : ℕ) (rows : List Row) (run : Run) (i : ℕ) → RowsFitFrom h from place rows → h ≤ end
    → i < length (map run_of rows ++ record { at = h; length = end - h } ∷ []) → get_or (map run_of rows ++ record { at = h; length = end - h } ∷ []) i run ≡ run → run.at + run.length ≤ end
inside_end h end from place [] run zero fits le below here = subst (λ (r : Run). r.at + r.length ≤ end) here (omega (arith, le))
inside_end h end from place [] run (suc i) fits le below here = absurd (omega (arith, below))
inside_end h end from place (x ∷ rows) run zero fits le below here = let b = fits.0.below in subst (λ (r : Run). r.at + r.length ≤ end) here (omega (arith, le, b))
inside_end h end from place (x ∷ rows) run (suc i) fits le below here = inside_end h end (x.at + x.length + 1) (place + x.length) rows run i fits.1 le (omega (arith, below)) here

pub stretches_stand : (image : Image) (standing : Standing image) (space : SpaceView) → space.layout ≡ layout_of standing.slot → space.runs ≡ map run_of standing.rows
    → (run : Run) → Contains (stretches (layout_of standing.slot) standing.rows) run → RunsTo (records_in image space) run.at (run.at + run.length)
unfolding stored
stretches_stand image standing space layout runs run (i, below, here) =
    subst (λ rs. RunsTo (stored image space.layout rs) run.at (run.at + run.length)) (sym runs)
    (subst (λ l. RunsTo (stored image l (map run_of standing.rows)) run.at (run.at + run.length)) (sym layout)
    (runs_along f standing.slot.end stretch.records run.at (run.at + run.length) stretch.lies stretch.fit
    (inside_end standing.slot.horizon standing.slot.end 0 0 standing.rows run i standing.generation.fits standing.live.fields.horizon below here)))
  where
    version : standing.slot.version ≡ newest_version
    version = let low = standing.live.fields.version_low in let high = standing.live.fields.version_high in omega (arith, low, high)

    f : ℕ → Option ℕ
    f = virtual_byte image (layout_of standing.slot) (map run_of standing.rows)

    stretch : Stretch f run
    stretch = some_stretch f (stretches (layout_of standing.slot) standing.rows) run standing.records i below here standing.whole
        (subst (λ (v : ℕ). AllByRecursion (λ (x : ℕ × Record). Fits v x.1) standing.records) version (good_fit standing.slot [] standing.records standing.good))
