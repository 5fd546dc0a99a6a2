-- Which of the new contents a batch has placed, by their bytes.
--     slices_of xs      what slices hold
--     AreKept places seen      a map has the offset of each of these.      found_or found o      where contents lie that have a record
--     IsPlacedOnce o seen b next after put more places at      bytes that have a place keep it, others get the next one and are put
use Rattle.std.specs.Prelude.{◌≡◌, ℕ, ◌+◌, List, [], ◌∷◌, ◌++◌, map, Option, Some, None}
use Rattle.std.specs.BTreeMap.{BTreeMap, get_by}
use Rattle.ip_spec.specs.Path.{Bytes, bytes_cmp}
use Rattle.ip_save.specs.Laid.{size}
use Rattle.ip_save.specs.Reused.{place_of}
use denote.Ref.{Bor}

abbrev pub slices_of : List (Bor Bytes) → List Bytes
slices_of xs = map (λ (x : Bor Bytes). x.now) xs

abbrev pub AreKept : BTreeMap (Bor Bytes) ℕ → List (Bytes × ℕ) → Type 0
AreKept places seen = (b : Bytes) → get_by (λ (k : Bor Bytes). bytes_cmp b k.now) places ≡ place_of seen b

-- what was found in a record, or else what the batch has
abbrev pub found_or : Option ℕ → Option ℕ → Option ℕ
found_or (Some k) o = Some k
found_or None o = o

abbrev pub IsPlacedOnce : Option ℕ → List (Bytes × ℕ) → Bytes → ℕ → ℕ → List Bytes → List Bytes → BTreeMap (Bor Bytes) ℕ → ℕ → Type 0
IsPlacedOnce (Some k) seen b next after put more places at = (at ≡ k) × (after ≡ next) × (more ≡ put) × AreKept places seen
IsPlacedOnce None seen b next after put more places at = (at ≡ next) × (after ≡ next + size b) × (more ≡ put ++ b ∷ []) × AreKept places ((b, next) ∷ seen)
