-- The chunk files seen as one list of bytes with gaps.
--     chunk_file size at      the file that holds a place.      chunk_start size at      the first place of the same file
--     byte_in size at content      the byte at a place, by the content of its file.      chunk_byte size image at      the same, by an image (ip_image); None is a gap
--     NoGap size image from to      there is no gap from one place up to another
--     IsChunk file      the file holds some place.      IsChunkBetween size from to file      it holds such a place.      IsChunkFrom size from file      the file holds a place from there on
--     IsChunkNumbered from to file      the file is a chunk of such a number
use Rattle.std.specs.Prelude.{◌≡◌, ℕ, ◌-◌, ◌<◌, ◌≤◌, Option, IsSome}
use Rattle.ip_ground.specs.declared.names.FileName.{FileName}
use Rattle.ip_ground.specs.declared.names.FileName.TheVariants.{Chunk}
use Rattle.ip_ground.specs.Contents.{Content, Image}
use Rattle.ip_image.specs.Virtual.{byte_of, chunk_of, place_in_chunk}
unfoldable pub use Rattle.ip_image.specs.Virtual.{chunk_byte}

abbrev pub chunk_file : ℕ → ℕ → FileName
chunk_file size at = Chunk (chunk_of size at)

abbrev pub chunk_start : ℕ → ℕ → ℕ
chunk_start size at = at - place_in_chunk size at

-- a place has a byte where its chunk's file reaches it, and is a gap where that file is absent or too short
abbrev pub byte_in : ℕ → ℕ → Content → Option ℕ
byte_in size at content = byte_of content (place_in_chunk size at)

-- whatever the size of a chunk is
abbrev pub IsChunk : FileName → Type 0
IsChunk file = (size at : ℕ) × (file ≡ chunk_file size at)

-- from one place up to, and without, another
abbrev pub IsBetween : ℕ → ℕ → ℕ → Type 0
IsBetween from to at = (from ≤ at) × (at < to)

abbrev pub NoGap : ℕ → Image → ℕ → ℕ → Type 0
NoGap size image from to = (at : ℕ) → IsBetween from to at → IsSome (chunk_byte size image at)

abbrev pub IsChunkBetween : ℕ → ℕ → ℕ → FileName → Type 0
IsChunkBetween size from to file = (at : ℕ) × IsBetween from to at × (file ≡ chunk_file size at)

abbrev pub IsChunkFrom : ℕ → ℕ → FileName → Type 0
IsChunkFrom size from file = (at : ℕ) × (from ≤ at) × (file ≡ chunk_file size at)

abbrev pub IsChunkNumbered : ℕ → ℕ → FileName → Type 0
IsChunkNumbered from to file = (number : ℕ) × IsBetween from to number × (file ≡ Chunk number)
