-- The sizes that chunks may have.
use Rattle.std.specs.Prelude.{◌≡◌, ℕ, ◌≤◌, ◌^◌}
use Rattle.ip_base.specs.declared.limit.TheConstants.{CHUNK_BITS_MIN, CHUNK_BITS_MAX}

-- a power of two within the bounds
abbrev pub IsChunkSize : ℕ → Type 0
IsChunkSize size = (k : ℕ) × (CHUNK_BITS_MIN ≤ k) × (k ≤ CHUNK_BITS_MAX) × (size ≡ 2 ^ k)
