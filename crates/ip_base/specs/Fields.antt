-- Fields at the front of bytes.
--     left_of cursor      what is still to be read
--     taken n bytes      the first n bytes, where there are as many.      left_behind n bytes      what is left then
use Rattle.std.specs.Prelude.{ℕ, List, length, take, drop, Option, Some, None, nat_le, if◌then◌else◌}
use Rattle.ip_base.specs.declared.cursor.Cursor.{Cursor}

abbrev pub left_of : Cursor → List ℕ
left_of cursor = cursor.left.now

abbrev pub taken : ℕ → List ℕ → Option (List ℕ)
taken n bytes = if nat_le n (length bytes) then Some (take n bytes) else None

-- where there are fewer, nothing is taken
abbrev pub left_behind : ℕ → List ℕ → List ℕ
left_behind n bytes = if nat_le n (length bytes) then drop n bytes else bytes
