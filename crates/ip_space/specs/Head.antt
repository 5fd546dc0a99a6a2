-- How long a record says that it is.
--     length_at bytes      the number behind the kind.      needed bytes      how many bytes the record has
use Rattle.std.specs.Prelude.{ℕ, ◌+◌, not, ◌&&◌, ◌==◌, [], ◌∷◌, length, take, nat_lt, if◌then◌else◌}
use Rattle.std.specs.Int.{w32, from_le_bytes}
use Rattle.ip_spec.specs.declared.kind.TheConstants as kinds
use Rattle.ip_spec.specs.Path.{Bytes}
use Rattle.ip_spec.specs.Record.{contents_limit}
use Rattle.ip_spec.specs.Reading.{known}
use Rattle.ip_image.specs.Slot.{newest_version}

-- five bytes, and as many as they say; 0 where not all five are there, or they begin no record
unfoldable pub needed : Bytes → ℕ
needed [] = 0
needed (kind ∷ bytes) =
    let len = from_le_bytes w32 (take 4 bytes) in
    if not (known newest_version kind) then 0 else
    if nat_lt (length bytes) 4 then 0 else
    if kind == kinds.CONTENTS && nat_lt (contents_limit newest_version) len then 0 else 5 + len
