-- What each call does to the list of bytes: as a write, a read and a sync do to a file.
--     TornByte end n at old new      the byte at a place, before and after an append of n bytes at `end` that may have been cut short
--     Appends, ReadsAt, SyncsRange, Sweeps      what the calls do to what is told
use Rattle.std.specs.Prelude.{◌≡◌, ◌⊎◌, ℕ, ◌+◌, ◌<◌, ◌≤◌, List, length, take, Contains, Option, None, IsSome, Result, IfOk, OnOk}
use Rattle.ip_ground.specs.declared.names.FileName.{FileName}
use Rattle.ip_ground.specs.declared.names.FileName.TheVariants.{Chunk}
use Rattle.ip_ground.specs.declared.names.GroundFault.{GroundFault}
use Rattle.ip_ground.specs.Contents.{Content}
use Rattle.ip_ground.specs.Told.{Told, ChangesLeft, IsSynced, NoFile, ChangesOnly, SyncsOnly}
use Rattle.ip_image.specs.Virtual.{Stands, chunk_of}
use Rattle.ip_chunks.specs.Places.{byte_in, chunk_byte, IsBetween, IsChunkBetween, IsChunkNumbered}

-- A byte in front of `end` stays, one from there on may become any other, and behind the n bytes all is as it was, gaps too. A crash
-- may leave any byte in the place of a gap in front of `end`.
pub record TornByte (end n at : ℕ) (old new : Option ℕ) : Type 0 where
  pub before : at < end → IsSome old → new ≡ old
  pub within : IsSome old → IsSome new
  pub behind : end + n ≤ at → new ≡ old

-- the same for all places of one chunk
abbrev pub TornChunk : ℕ → ℕ → ℕ → ℕ → Content → Content → Type 0
TornChunk size end n number old new = (at : ℕ) → chunk_of size at ≡ number → TornByte end n at (byte_in size at old) (byte_in size at new)

-- Ok: the bytes stand there. Else any bytes in their range. All other places are as they were, and so are all files but the chunks of
-- the range. A crash may leave any bytes in the range either way.
pub record Appends (size end : ℕ) (bytes : List ℕ) (result : Result (Unit {0}) GroundFault) (old new : Told) : Type 0 where
  pub only : ChangesOnly (IsChunkBetween size end (end + length bytes)) old new
  pub ok : OnOk result (Stands (chunk_byte size new.held) end bytes)
  pub others : (at : ℕ) → ¬ IsBetween end (end + length bytes) at → chunk_byte size new.held at ≡ chunk_byte size old.held at
  pub no_new_gap : (at : ℕ) → IsSome (chunk_byte size old.held at) → IsSome (chunk_byte size new.held at)
  pub left : (number : ℕ) → ChangesLeft (TornChunk size end (length bytes) number) old new (Chunk number)

-- The bytes are those that stand from the place on, and they go on up to the first gap, or until `out` is full. No file changes.
pub record ReadsAt (size at : ℕ) (out filled : List ℕ) (result : Result ℕ GroundFault) (old new : Told) : Type 0 where
  pub only : ChangesOnly NoFile old new
  pub bytes : IfOk result (λ n. Stands (chunk_byte size old.held) at (take n filled))
  pub gap : IfOk result (λ n. n < length out → chunk_byte size old.held (at + n) ≡ None)

-- Ok: of each chunk that holds a place of the range a crash leaves what it reads as. No file changes, and no
-- other is synced.
pub record SyncsRange (size from to : ℕ) (result : Result (Unit {0}) GroundFault) (old new : Told) : Type 0 where
  pub only : SyncsOnly (IsChunkBetween size from to) old new
  pub ok : OnOk result ((file : FileName) → IsChunkBetween size from to file → IsSynced new file)

-- A removal that failed may have left its chunk or not, and a crash may leave a chunk of the range as before or none. No other file
-- changes, nor any byte of a chunk that is left.
pub record Sweeps (from to left : ℕ) (old new : Told) : Type 0 where
  pub only : ChangesOnly (IsChunkNumbered from to) old new
  pub none_left : left ≡ 0 → (number : ℕ) → IsBetween from to number → new.held (Chunk number) ≡ None
  -- all are absent but so many at most
  pub all_but : (those : List ℕ) × (length those ≡ left) × ((number : ℕ) → IsBetween from to number → (new.held (Chunk number) ≡ None) ⊎ Contains those number)
  pub same : (number : ℕ) → IsBetween from to number → (new.held (Chunk number) ≡ old.held (Chunk number)) ⊎ (new.held (Chunk number) ≡ None)
  pub crash : (number : ℕ) → IsBetween from to number → ChangesLeft (λ before content. (content ≡ before) ⊎ (content ≡ None)) old new (Chunk number)
