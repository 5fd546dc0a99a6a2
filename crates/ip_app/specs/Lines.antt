-- The pieces of bytes that line feeds cut off.
--     longest_line, most_taken      bytes of a line before its line feed, and bytes of a source, that are taken at most
--     HasNoLineFeed bytes      no line feed stands in them
--     last_piece bytes      what stands behind the last line feed, all where there is none
use Rattle.std.specs.Prelude.{ℕ, ◌≡◌, ◌==◌, Bool, false, if◌then◌else◌, [], ◌∷◌}
use Rattle.std.specs.List.{list_any}
use Rattle.ip_spec.specs.Path.{Bytes, line_feed}
use Rattle.ip_app.specs.declared.lines.TheConstants.{LONGEST_LINE, MOST_TAKEN}

abbrev pub longest_line : ℕ
longest_line = LONGEST_LINE

abbrev pub most_taken : ℕ
most_taken = MOST_TAKEN

abbrev pub is_line_feed : ℕ → Bool
is_line_feed b = b == line_feed

abbrev pub HasNoLineFeed : Bytes → Type 0
HasNoLineFeed bytes = list_any is_line_feed bytes ≡ false

abbrev pub last_piece : Bytes → Bytes
last_piece [] = []
last_piece (b ∷ bytes) = if list_any is_line_feed (b ∷ bytes) then last_piece bytes else b ∷ bytes
