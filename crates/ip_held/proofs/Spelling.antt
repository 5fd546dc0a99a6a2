-- The bytes of a fresh control file, about its chunk size.
use Rattle.std.proofs.Common.{◌≡◌, ℕ, [], ◌∷◌, ◌++◌, refl}
use Rattle.ip_image.specs.Slot.{slot_fields, zeros, fresh_control}
use Rattle.ip_spec.specs.Path.{Bytes}
use Rattle.ip_spec.specs.Record.{u64}

unfoldable pub before : Bytes
before = 165 ∷ 0 ∷ 0 ∷ 0 ∷ 0 ∷ 0 ∷ 0 ∷ 0 ∷ 1 ∷ 0 ∷ 0 ∷ 0 ∷ 0 ∷ 0 ∷ 0 ∷ 0 ∷ 1 ∷ 0 ∷ 0 ∷ 0 ∷ 0 ∷ 0 ∷ 0 ∷ 0 ∷ []

unfoldable pub after : Bytes
after = zeros 40 ++ (1 ∷ (zeros 31 ++ (1 ∷ zeros 151)))

pub spelled : (chunk : ℕ) → before ++ (u64 chunk ++ after) ≡ fresh_control chunk
unfolding slot_fields before after
spelled chunk = refl
