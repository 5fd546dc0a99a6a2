-- How far a text goes along with the fields of a line. The rule of the lines is the grammar; these say what the functions on the way to it find.
--     with_byte path b      where a path stands by one more byte.      path_length text      how many bytes from the front may be part of a path
--     field_length field text      how many bytes from the front may be part of the field.      is_whole_field field text n      whether so many are a whole one
--     reach word fields line      how far a line goes along with a word and fields, and whether it is of them
use Rattle.std.specs.Prelude.{ℕ, ◌+◌, ◌-◌, ◌%◌, ◌==◌, Bool, true, false, ◌&&◌, ◌||◌, not, nat_lt, nat_le, if◌then◌else◌, List, [], ◌∷◌, length, drop, get_or, min, Option, Some, None}
use Rattle.std.specs.List.{prefix_len}
use Rattle.hex.specs.Hex.{is_hex_digit}
use Rattle.ip_base.specs.declared.limit.TheConstants.{STEPS_MAX, STEP_BYTES_MAX, NAME_MAX, AUTHOR_MAX, MESSAGE_MAX}
use Rattle.ip_spec.specs.Path.{Bytes}
use Rattle.ip_script.specs.declared.field.Field.{Field}
use Rattle.ip_script.specs.declared.field.Field.TheVariants.{Path, Place, Hex, Name, Reference, Date, Author, Message}
use Rattle.ip_script.specs.declared.field.Open.{Open}
use Rattle.ip_script.specs.declared.line.Fit.{Fit}
use Rattle.ip_script.specs.Dates.{date_length}

-- bytes that a message, a word and a step are made of
abbrev pub is_message_byte : ℕ → Bool
is_message_byte b = nat_lt b 256 && not (b == 10) && not (b == 0)

abbrev pub is_word_byte : ℕ → Bool
is_word_byte b = is_message_byte b && not (b == 32)

abbrev pub is_step_byte : ℕ → Bool
is_step_byte b = is_word_byte b && not (b == 47)

-- A slash ends a step that has a byte and is not the 64th; another byte goes on with a step of fewer than 255.
abbrev pub with_byte : Open → ℕ → Option Open
with_byte path b =
    if b == 47 && (nat_lt 0 path.size && nat_lt path.steps (STEPS_MAX - 1))
    then Some (record { steps = path.steps + 1; size = 0 })
    else (if is_step_byte b && nat_lt path.size STEP_BYTES_MAX
    then Some (record { steps = path.steps; size = path.size + 1 })
    else None)

-- how many bytes a path goes on with
abbrev pub path_on : Open → Bytes → ℕ
path_on path [] = 0
path_on path (b ∷ text) = elim (with_byte path b) [ None ↦ 0 | Some next ↦ 1 + path_on next text ]

abbrev pub path_length : Bytes → ℕ
path_length text = path_on (record { steps = 0; size = 0 }) text

-- there are so many bytes, and the last of them is no slash
abbrev pub ends_in_step : Bytes → ℕ → Bool
ends_in_step text n = nat_lt 0 n && (nat_le n (length text) && not (get_or text (n - 1) 0 == 47))

abbrev pub field_length : Field → Bytes → ℕ
field_length Path text = path_length text
field_length Place [] = 0
field_length Place (b ∷ text) = if b == 47 then 1 else path_length (b ∷ text)
field_length Hex [] = 0
field_length Hex (b ∷ text) = if b == 45 then 1 else prefix_len is_hex_digit (b ∷ text)
field_length Name [] = 0
field_length Name (b ∷ text) = if b == 64 then 0 else min NAME_MAX (prefix_len is_word_byte (b ∷ text))
field_length Reference [] = 0
field_length Reference (b ∷ text) = if b == 64 then 1 + min 64 (prefix_len is_hex_digit text) else min NAME_MAX (prefix_len is_word_byte (b ∷ text))
field_length Date text = date_length text
field_length Author text = min AUTHOR_MAX (prefix_len is_word_byte text)
field_length Message text = min MESSAGE_MAX (prefix_len is_message_byte text)

abbrev pub is_whole_field : Field → Bytes → ℕ → Bool
is_whole_field Path text n = ends_in_step text n
is_whole_field Place [] n = ends_in_step [] n
is_whole_field Place (b ∷ text) n = (b == 47) || ends_in_step (b ∷ text) n
is_whole_field Hex [] n = false
is_whole_field Hex (b ∷ text) n = (b == 45) || (nat_lt 0 n && n % 2 == 0)
is_whole_field Reference (b ∷ text) n = if b == 64 then n == 65 else nat_lt 0 n
is_whole_field _ text n = nat_lt 0 n

-- fields, each behind one space, from a place on
abbrev pub reach_fields : List Field → ℕ → Bytes → Fit
reach_fields [] at [] = record { at = at; whole = true }
reach_fields [] at (b ∷ text) = record { at = at; whole = false }
reach_fields (field ∷ fields) at [] = record { at = at; whole = false }
reach_fields (field ∷ fields) at (b ∷ text) =
    if b == 32
    then (if is_whole_field field text (field_length field text)
    then reach_fields fields (at + 1 + field_length field text) (drop (field_length field text) text)
    else record { at = at + 1 + field_length field text; whole = false })
    else record { at = at; whole = false }

-- a word and fields, from a place on
abbrev pub reach_from : ℕ → Bytes → List Field → Bytes → Fit
reach_from at [] fields text = reach_fields fields at text
reach_from at (w ∷ word) fields [] = record { at = at; whole = false }
reach_from at (w ∷ word) fields (b ∷ text) = if w == b then reach_from (at + 1) word fields text else record { at = at; whole = false }

abbrev pub reach : Bytes → List Field → Bytes → Fit
reach = reach_from 0
