-- The live mapping and prefix, as a space is made of them.
--     live_mapping s, live_prefix s      their files
--     IsOwnPair told s      no child changes them
--     IsBadPair image s file at      the first of their tests that fails, each resting on those before it
--     HasNumbers s head      the numbers in front of a mapping are the layout's
--     HasRowsLength image s      the mapping's file has the length of its rows
--     FindsMapping, FindsPrefix, FindsPair, FindsSpace image s result      what reading them comes to
use Rattle.std.specs.Prelude.{◌≡◌, ◌≢◌, ℕ, ◌+◌, ◌*◌, ◌<◌, ◌≤◌, List, [], ◌∷◌, ◌++◌, length, map, IsSomeAnd, Result, Ok, Err}
use Rattle.ip_ground.specs.declared.names.FileName.{FileName}
use Rattle.ip_ground.specs.declared.names.FileName.TheVariants.{Prefix, Mapping}
use Rattle.ip_ground.specs.Contents.{Image, size_of}
use Rattle.ip_ground.specs.Told.{Told, IsForeign}
use Rattle.ip_image.specs.declared.layout.Layout.{Layout}
use Rattle.ip_image.specs.declared.run.Row.{Row}
use Rattle.ip_image.specs.Virtual.{RowsFit, run_of, total}
use Rattle.ip_image.specs.Standing.{MappingIs, Generation}
use Rattle.ip_mapping.specs.Parsing.{Fields}
use Rattle.ip_mapping.specs.declared.head.Head.{Head}
use Rattle.ip_space.specs.SpaceView.{SpaceView}
use Rattle.ip_space.specs.declared.fault.SpaceFault.{SpaceFault}
use Rattle.ip_space.specs.declared.fault.SpaceFault.TheVariants.{Ground, Damaged, Memory}

abbrev pub live_mapping : Layout → FileName
live_mapping s = Mapping s.live

abbrev pub live_prefix : Layout → FileName
live_prefix s = Prefix s.live

pub record IsOwnPair (told : Told) (s : Layout) : Type 0 where
  pub mapping : ¬ IsForeign told (Mapping s.live)
  pub prefix : ¬ IsForeign told (Prefix s.live)

-- the prefix has the length that is told of it
abbrev pub PrefixFits : Image → Layout → Type 0
PrefixFits image s = IsSomeAnd (image (Prefix s.live)) (λ bytes. length bytes ≡ s.prefix_len)

pub data IsBadPair (image : Image) (s : Layout) : FileName → ℕ → Type 0 where
  no_mapping : ((rows : List Row) → ¬ (MappingIs image s rows)) → IsBadPair image s (Mapping s.live) 0
  no_row : (before after : List Row) (row : Row) → MappingIs image s (before ++ row ∷ after) → RowsFit s.horizon before → ¬ (RowsFit s.horizon (before ++ row ∷ []))
      → IsBadPair image s (Mapping s.live) (32 + 24 * length before)
  no_sum : (rows : List Row) → MappingIs image s rows → RowsFit s.horizon rows → total (map run_of rows) ≢ s.prefix_len → IsBadPair image s (Mapping s.live) 0
  no_prefix : (rows : List Row) → MappingIs image s rows → RowsFit s.horizon rows → total (map run_of rows) ≡ s.prefix_len → ¬ (PrefixFits image s) → IsBadPair image s (Prefix s.live) 0

-- the numbers in front of a mapping are those of the layout
pub record HasNumbers (s : Layout) (head : Head) : Type 0 where
  pub horizon : head.horizon ≡ s.horizon
  pub rows : head.rows ≡ s.rows
  pub above : s.horizon < head.end
  pub inside : head.end ≤ s.end

-- the mapping's file is as long as its rows
abbrev pub HasRowsLength : Image → Layout → Type 0
HasRowsLength image s = size_of (image (live_mapping s)) ≡ 32 + 24 * s.rows

-- A failed call says nothing. Memory is wanted only for a mapping of the right length: any other is damage.
abbrev pub FindsMapping : Image → Layout → Result Fields SpaceFault → Type 0
FindsMapping image s (Ok m) = MappingIs image s m.rows × RowsFit s.horizon m.rows
FindsMapping image s (Err Ground) = Unit {0}
FindsMapping image s (Err (Damaged file at)) = IsBadPair image s file at
FindsMapping image s (Err Memory) = HasRowsLength image s

abbrev pub FindsPrefix : Image → Layout → Result (Unit {0}) SpaceFault → Type 0
FindsPrefix image s (Ok u) = PrefixFits image s
FindsPrefix image s (Err Ground) = Unit {0}
FindsPrefix image s (Err (Damaged file at)) = (file ≡ Prefix s.live) × (at ≡ 0) × ¬ (PrefixFits image s)
FindsPrefix image s (Err Memory) = ⊥

abbrev pub FindsPair : Image → Layout → Result Fields SpaceFault → Type 0
FindsPair image s (Ok m) = Generation image s m.rows
FindsPair image s (Err Ground) = Unit {0}
FindsPair image s (Err (Damaged file at)) = IsBadPair image s file at
FindsPair image s (Err Memory) = HasRowsLength image s

abbrev pub FindsSpace : Image → Layout → Result SpaceView SpaceFault → Type 0
FindsSpace image s (Ok space) = (rows : List Row) × Generation image s rows × (space.runs ≡ map run_of rows)
FindsSpace image s (Err Ground) = Unit {0}
FindsSpace image s (Err (Damaged file at)) = IsBadPair image s file at
FindsSpace image s (Err Memory) = HasRowsLength image s
