-- What stands from a place on, by what the files read as and by what a crash may leave of them: the words of whoever knows that the
-- bytes up to an end are kept, and writes behind it.
--     Holds size at bytes image      the image has these bytes from a place on
--     bytes_from size image at n      the n bytes that it has from a place on
--     EachByteNow, EachByteSince      each byte that a crash may leave at a place
--     Leaves size at bytes told      a crash leaves these bytes.      LeavesSince size at bytes old new      at each moment since old
--     AppendsKept size from end front bytes result old new      an append at the end of a front and a sync of it
use Rattle.std.specs.Prelude.{◌≡◌, ℕ, ◌+◌, ◌<◌, ◌≤◌, List, ◌++◌, length, filter_map, Option, slice_get, Result, OnOk}
use Rattle.std.specs.List.{range_with_len}
use Rattle.ip_ground.specs.declared.names.FileName.{FileName}
use Rattle.ip_ground.specs.declared.names.GroundFault.{GroundFault}
use Rattle.ip_ground.specs.Contents.{Image}
use Rattle.ip_ground.specs.Told.{Told, EachSince, EachNow, IsSynced, ChangesOnly}
use Rattle.ip_image.specs.Virtual.{Stands}
use Rattle.ip_chunks.specs.Places.{chunk_file, byte_in, chunk_byte, IsChunkBetween}

abbrev pub Holds : ℕ → ℕ → List ℕ → Image → Type 0
Holds size at bytes image = Stands (chunk_byte size image) at bytes

-- the n bytes from a place on, where there is no gap
unfoldable pub bytes_from : ℕ → Image → ℕ → ℕ → List ℕ
bytes_from size image at n = filter_map (chunk_byte size image) (range_with_len at n)

abbrev pub EachByteNow : ℕ → ℕ → Told → (Option ℕ → Type 0) → Type 0
EachByteNow size at told P = EachNow told (chunk_file size at) (λ content. P (byte_in size at content))

abbrev pub EachByteSince : ℕ → ℕ → Told → Told → (Option ℕ → Type 0) → Type 0
EachByteSince size at old new P = EachSince old new (chunk_file size at) (λ content. P (byte_in size at content))

abbrev pub Leaves : ℕ → ℕ → List ℕ → Told → Type 0
Leaves size at bytes told = (k : ℕ) → k < length bytes → EachByteNow size (at + k) told (λ byte. byte ≡ slice_get bytes k)

abbrev pub LeavesSince : ℕ → ℕ → List ℕ → Told → Told → Type 0
LeavesSince size at bytes old new = (k : ℕ) → k < length bytes → EachByteSince size (at + k) old new (λ byte. byte ≡ slice_get bytes k)

-- Bytes were appended at the end of a front, and their chunks were synced. Ok: they stand there, and nothing of these chunks is pending. Where a
-- crash left the front before, it does so at each moment, and after Ok it leaves both.
pub record AppendsKept (size from end : ℕ) (front bytes : List ℕ) (result : Result (Unit {0}) GroundFault) (old new : Told) : Type 0 where
  pub only : ChangesOnly (IsChunkBetween size end (end + length bytes)) old new
  -- behind the bytes all is as it was
  pub behind : (at : ℕ) → end + length bytes ≤ at → chunk_byte size new.held at ≡ chunk_byte size old.held at
  pub held : OnOk result (Holds size from (front ++ bytes) new.held)
  pub synced : OnOk result ((file : FileName) → IsChunkBetween size end (end + length bytes) file → IsSynced new file)
  pub since : Leaves size from front old → LeavesSince size from front old new
  pub kept : Leaves size from front old → OnOk result (Leaves size from (front ++ bytes) new)
