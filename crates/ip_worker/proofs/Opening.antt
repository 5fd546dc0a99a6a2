-- The live pair of a job, where no attempt was ever lent.
--     own_pair      no child changes it.      generation_later      what it holds stays while no file changes
--     not_bad, bad_found      one that is whole is not bad.      opened      the space that is made of it
use Rattle.std.proofs.Common.{◌≡◌, ◌≢◌, ℕ, zero, suc, List, [], ◌∷◌, ◌++◌, length, map, refl, sym, ◌∙◌, ap, subst, arith, append_assoc}
use Rattle.std.specs.Prelude.{Ok, Err, IsSomeAnd}
use Rattle.ip_ground.specs.declared.names.FileName.{FileName}
use Rattle.ip_ground.specs.declared.names.FileName.TheVariants.{Prefix}
use Rattle.ip_ground.specs.Contents.{Content, Image}
use Rattle.ip_ground.specs.Custody.{Custody}
use Rattle.ip_ground.specs.Custody as custody
use Rattle.ip_ground.specs.Told.{Told, NoFile, ChangesOnly}
use Rattle.ip_image.specs.declared.layout.Layout.{Layout}
use Rattle.ip_image.specs.declared.run.Row.{Row}
use Rattle.ip_image.specs.Virtual.{run_of, RowsFit}
use Rattle.ip_image.specs.Standing.{Generation}
use Rattle.ip_image.proofs.DamageLaws.{rows_front}
use Rattle.ip_space.specs.SpaceView.{SpaceView}
use Rattle.ip_space.specs.Pair.{IsOwnPair, IsBadPair, no_mapping, no_row, no_sum, no_prefix, FindsSpace}
use Rattle.ip_space.specs.declared.fault.SpaceFault.{SpaceFault}
use Rattle.ip_space.specs.declared.fault.SpaceFault.TheVariants.{Damaged}
use Rattle.ip_space.proofs.LivePair.{held_later, mapping_later}
use Rattle.ip_space.proofs.Stretches.{one_mapping, one_rows}
use Rattle.ip_worker.specs.Working.{NothingLent}

pub own_pair : (told : Told) (s : Layout) → NothingLent told → IsOwnPair told s
own_pair told s nothing = record {
  mapping = λ foreign. subst (λ (c : Custody). custody.IsForeign c) (nothing s.live) foreign;
  prefix = λ foreign. subst (λ (c : Custody). custody.IsForeign c) (nothing s.live) foreign;
}

pub generation_later : (a b : Told) (s : Layout) (rows : List Row) → ChangesOnly NoFile a b → IsOwnPair a s → Generation a.held s rows → Generation b.held s rows
generation_later a b s rows only own g = record {
  file = λ live. mapping_later a b only s own.mapping rows (g.file live);
  fits = g.fits;
  sum = g.sum;
  prefix = λ live. subst (λ (c : Content). IsSomeAnd c (λ bytes. length bytes ≡ s.prefix_len)) (sym (held_later a b only s (Prefix s.live) own.prefix)) (g.prefix live);
  none = g.none;
}

not_bad : (image : Image) (s : Layout) (rows : List Row) → s.live ≢ 0 → Generation image s rows → (file : FileName) (at : ℕ) → IsBadPair image s file at → ⊥
not_bad image s rows live g file at (no_mapping none) = none rows (g.file live)
not_bad image s rows live g file at (no_row before after row is fits bad) =
    let same : rows ≡ before ++ row ∷ after = one_mapping image s rows (before ++ row ∷ after) (g.file live) is in
    let all : before ++ row ∷ after ≡ (before ++ row ∷ []) ++ after = sym (append_assoc before (row ∷ []) after) in
    bad (rows_front s.horizon 0 0 (before ++ row ∷ []) after (subst (RowsFit s.horizon) (same ∙ all) g.fits))
not_bad image s rows live g file at (no_sum others is fits other) =
    other (subst (λ (rows : List Row). Generation image s rows) (one_mapping image s rows others (g.file live) is) g).sum
not_bad image s rows live g file at (no_prefix others is fits sum other) = other (g.prefix live)

pub bad_found : (image : Image) (s : Layout) (rows : List Row) (fault : SpaceFault) (file : FileName) (at : ℕ) → fault ≡ Damaged file at → s.live ≢ 0 → Generation image s rows → FindsSpace image s (Err fault) → ⊥
bad_found image s rows fault file at is live g finds = not_bad image s rows live g file at (subst (λ (f : SpaceFault). FindsSpace image s (Err f)) is finds)

pub opened : (image : Image) (s : Layout) (rows : List Row) (space : SpaceView) → Generation image s rows → space.layout ≡ s → (s.live ≡ 0 → space.runs ≡ []) → space.kept ≡ [] → (s.live ≢ 0 → FindsSpace image s (Ok space))
    → space ≡ record { layout = s; runs = map run_of rows; kept = [] }
opened image s rows space g layout none kept some = λ i. record { layout = layout i; runs = runs i; kept = kept i }
  where
    by : (n : ℕ) → s.live ≡ n → space.runs ≡ map run_of rows
    by zero e = none e ∙ sym (ap (map run_of) (g.none e))
    by (suc n) e =
        let live : s.live ≢ 0 = (λ z. absurd (omega (arith, e, z))) in
        let (others, there, is) = some live in
        is ∙ ap (map run_of) (one_rows image s others rows there g)

    runs : space.runs ≡ map run_of rows
    runs = by s.live refl
