-- Bytes that were read ahead.
--     held_in a      these bytes.      IsAhead a      their places in the buffer are in order
--     BeginsWith front bytes      they begin with these
--     Shows bytes_at end at bytes      they stand from there on, and below the end
--     IsUpTo bytes_at end at bytes      they are all that there is up to the end, or up to the first that is missing
--     IsEnough bytes_at end at bytes      they tell what record they begin with, or that they begin with none
use Rattle.std.specs.Prelude.{◌≡◌, ◌⊎◌, ℕ, ◌+◌, ◌-◌, ◌<◌, ◌≤◌, List, ◌++◌, length, take, drop, Option, None, Result, IfOk}
use Rattle.ip_ground.specs.declared.names.GroundFault.{GroundFault}
use Rattle.ip_spec.specs.Path.{Bytes}
use Rattle.ip_image.specs.Virtual.{Stands}
use Rattle.ip_space.specs.Head.{needed}
use Rattle.ip_space.specs.declared.ahead.Ahead.{Ahead}

abbrev pub held_in : Ahead → Bytes
held_in a = take (a.stop - a.start) (drop a.start a.buffer.items)

pub record IsAhead (a : Ahead) : Type 0 where
  pub low : a.start ≤ a.stop
  pub high : a.stop ≤ length a.buffer.items

abbrev pub BeginsWith : Bytes → Bytes → Type 0
BeginsWith front bytes = (rest : Bytes) × (bytes ≡ front ++ rest)

pub record Shows (bytes_at : ℕ → Option ℕ) (end at : ℕ) (bytes : Bytes) : Type 0 where
  pub stands : Stands bytes_at at bytes
  pub inside : length bytes ≤ end - at

abbrev pub IsUpTo : (ℕ → Option ℕ) → ℕ → ℕ → Bytes → Type 0
IsUpTo bytes_at end at bytes = (length bytes ≡ end - at) ⊎ (bytes_at (at + length bytes) ≡ None)

abbrev pub IsEnough : (ℕ → Option ℕ) → ℕ → ℕ → Bytes → Type 0
IsEnough bytes_at end at bytes = ((5 ≤ length bytes) × (needed bytes ≤ length bytes)) ⊎ IsUpTo bytes_at end at bytes

-- What reading bytes from a place on does: they stand there, and are fewer than there is room for only where the next is missing.
pub record ReadsBytes (bytes_at : ℕ → Option ℕ) (at room : ℕ) (filled : List ℕ) (result : Result ℕ GroundFault) : Type 0 where
  pub bytes : IfOk result (λ n. Stands bytes_at at (take n filled))
  pub gap : IfOk result (λ n. n < room → bytes_at (at + n) ≡ None)
