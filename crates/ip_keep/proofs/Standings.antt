-- An image that stands has its records whole.
use Rattle.std.proofs.Common.{◌≡◌, ℕ, ◌-◌, ◌<◌, ◌≤◌, List, [], ◌∷◌, ◌++◌, map, sym, ap, subst, arith}
use Rattle.std.specs.Prelude.{IsSome}
use Rattle.std.specs.List.{AllByRecursion}
use Rattle.ip_ground.specs.Contents.{Image}
use Rattle.ip_spec.specs.declared.record.Record.{Record}
use Rattle.ip_spec.specs.Record.{Fits}
use Rattle.ip_spec.specs.TreeAt.{present}
use Rattle.ip_image.specs.declared.layout.Layout.{Layout}
use Rattle.ip_image.specs.declared.run.Run.{Run}
use Rattle.ip_image.specs.declared.run.Row.{Row}
use Rattle.ip_image.specs.Slot.{newest_version, layout_of}
use Rattle.ip_image.specs.Virtual.{run_of, placed, RowsFit, virtual_byte}
use Rattle.ip_image.specs.Standing.{RunByRun, Standing}
use Rattle.ip_image.proofs.OneRepository.{good_fit}
use Rattle.ip_image.proofs.PairLaws.{rows_placed}
use Rattle.ip_image.proofs.CoreTies.{image_ordered, image_rises, records_closed}
use Rattle.ip_space.specs.SpaceView.{SpaceView}
use Rattle.ip_keep.specs.Whole.{AreRecords}

pub standing_whole : (image : Image) (standing : Standing image) (space : SpaceView) (h : ℕ) → space.layout ≡ layout_of standing.slot → space.runs ≡ map run_of standing.rows
    → standing.slot.horizon ≤ h → h < standing.slot.end → IsSome (present standing.records h) → AreRecords image space h standing.records
standing_whole image standing space h layout runs above below here = record {
  rows = subst (λ (n : ℕ). RowsFit n (placed 0 space.runs)) (sym (ap (λ (l : Layout). l.horizon) layout))
      (subst (λ (rs : List Run). RowsFit standing.slot.horizon (placed 0 rs)) (sym runs)
      (subst (λ (rows : List Row). RowsFit standing.slot.horizon rows) (rows_placed standing.slot.horizon 0 0 standing.rows standing.generation.fits) standing.generation.fits));
  whole = subst (λ (l : Layout). Filled l space.runs) (sym layout) (subst (λ (rs : List Run). Filled (layout_of standing.slot) rs) (sym runs) standing.whole);
  bounds = subst (λ (v : ℕ). AllByRecursion (λ (x : ℕ × Record). Fits v x.1) standing.records) version (good_fit standing.slot [] standing.records standing.good);
  closed = records_closed standing.slot standing.records (image_rises image standing) standing.good space.layout.horizon standing.slot.end (image_ordered image standing);
  above = (let e = ap (λ (l : Layout). l.horizon) layout in omega (arith, e, above));
  below = (let e = ap (λ (l : Layout). l.end) layout in omega (arith, e, below));
  here = here;
}
  where
    Filled : Layout → List Run → Type 0
    Filled l rs = RunByRun (virtual_byte image l rs) (rs ++ record { at = l.horizon; length = l.end - l.horizon } ∷ []) standing.records

    version : standing.slot.version ≡ newest_version
    version = let low = standing.live.fields.version_low in let high = standing.live.fields.version_high in omega (arith, low, high)
