-- Reading records: which bytes are read as what, and each fault where it comes.
--     RecordFault, reading version bytes      the record at the front and its length, or the first fault
use Rattle.std.specs.Prelude.{ℕ, zero, suc, ◌+◌, ◌/◌, ◌%◌, ◌^◌, Bool, true, false, not, ◌&&◌, ◌||◌, ◌==◌, List, [], ◌∷◌, length, take, drop, filter, Option, Some, None, Result, Ok, Err, nat_le, nat_lt, if◌then◌else◌}
use Rattle.std.specs.List.{list_all, range_with_len}
use Rattle.std.specs.Int.{Width, w8, w16, w32, w64, byte_len, from_le_bytes}
use Rattle.std.specs.Ordering.{is_lt}
use Rattle.ip_base.specs.declared.limit.TheConstants.{MESSAGE_MAX, PARENTS_MAX, BRANCHES_MAX}
use Rattle.ip_spec.specs.declared.kind.TheConstants as kinds
use Rattle.ip_spec.specs.Path.{Bytes, Step, bytes_cmp, slash, line_feed, is_word_byte}
use Rattle.ip_spec.specs.Record.{Record, Names, name_set, name_remove, name_table, LeafEntry, InodeChild, Parent, Branch, Info, Hash, contents_limit}
pub use Rattle.ip_spec.specs.declared.record.RecordFault.{RecordFault}
pub use Rattle.ip_spec.specs.declared.record.RecordFault.TheVariants as RecordFault

-- A reader of fields goes from a place and the bytes of the body from there on to a value and what is left, or tells where the first field stands that it refuses.
abbrev pub Left : Type 0
Left = ℕ × Bytes

abbrev pub Fields : Type 0 → Type 0
Fields A = Left → Result (A × Left) ℕ

abbrev pub after : {A B : Type 0} → (A → Fields B) → Result (A × Left) ℕ → Result (B × Left) ℕ
after f (Ok r) = f r.0 r.1
after f (Err at) = Err at

infixl 10 ◌>>=◌
abbrev pub ◌>>=◌ : {A B : Type 0} → Fields A → (A → Fields B) → Fields B
(r >>= f) left = after f (r left)

abbrev pub done : {A : Type 0} → A → Fields A
done x left = Ok (x, left)

-- n bytes that pass a test
abbrev pub bytes_where : ℕ → (Bytes → Bool) → Fields Bytes
bytes_where n test left = if nat_le n (length left.1) && test (take n left.1) then Ok (take n left.1, (left.0 + n, drop n left.1)) else Err left.0

-- a number of this width that passes a test
abbrev pub number_where : Width → (ℕ → Bool) → Fields ℕ
number_where w test = bytes_where (byte_len w) (λ bytes. test (from_le_bytes w bytes)) >>= λ bytes. done (from_le_bytes w bytes)

abbrev pub any : ℕ → Bool
any n = true

abbrev pub hash_field : Fields Hash
hash_field = bytes_where 32 (λ bytes. true)

abbrev pub is_step : Bytes → Bool
is_step bytes = list_all (λ b. is_word_byte b && not (b == slash)) bytes

abbrev pub is_author : Bytes → Bool
is_author bytes = list_all is_word_byte bytes

abbrev pub begins_with_at : Bytes → Bool
begins_with_at [] = false
begins_with_at (b ∷ bytes) = b == 64

abbrev pub is_name : Bytes → Bool
is_name bytes = list_all is_word_byte bytes && not (begins_with_at bytes)

abbrev pub is_message : Bytes → Bool
is_message bytes = list_all (λ b. not (b == line_feed || b == 0)) bytes

abbrev pub is_behind : Option Bytes → Bytes → Bool
is_behind None bytes = true
is_behind (Some before) bytes = is_lt (bytes_cmp before bytes)

-- a length of 1 byte, not 0, and that many bytes, which pass a test and stand behind those before
abbrev pub text_field : (Bytes → Bool) → Option Bytes → Fields Bytes
text_field test before = number_where w8 (λ n. nat_lt 0 n) >>= λ n. bytes_where n (λ bytes. test bytes && is_behind before bytes)

abbrev pub entry_field : Option Step → Fields LeafEntry
entry_field before = do
  step ← text_field is_step before
  kind ← number_where w8 (λ n. n == 1 || n == 2)
  height ← number_where w8 (λ n. nat_le n 63)
  name ← hash_field
  at ← number_where w64 any
  done (record { step = step; kind = kind; height = height; name = name; at = at })

unfoldable pub entry_fields : ℕ → Option Step → Fields (List LeafEntry)
entry_fields zero before = done []
entry_fields (suc n) before = do
  e ← entry_field before
  es ← entry_fields n (Some e.step)
  done (e ∷ es)

-- the bits that are set, from bit 0 up
abbrev pub bits_of : ℕ → List ℕ
bits_of bitmap = filter (λ i. bitmap / 2 ^ i % 2 == 1) (range_with_len 0 32)

abbrev pub child_field : ℕ → Fields InodeChild
child_field index = do
  count ← number_where w32 (λ n. nat_lt 0 n)
  height ← number_where w8 (λ n. nat_le n 64)
  name ← hash_field
  at ← number_where w64 any
  done (record { index = index; count = count; height = height; name = name; at = at })

unfoldable pub child_fields : List ℕ → Fields (List InodeChild)
child_fields [] = done []
child_fields (i ∷ is) = do
  c ← child_field i
  cs ← child_fields is
  done (c ∷ cs)

unfoldable pub parent_fields : ℕ → Fields (List Parent)
parent_fields zero = done []
parent_fields (suc n) = do
  number ← number_where w64 any
  name ← hash_field
  ps ← parent_fields n
  done (record { number = number; name = name } ∷ ps)

abbrev pub info_fields : Fields Info
info_fields = do
  date ← number_where w64 any
  author ← text_field is_author None
  length ← number_where w16 (λ n. nat_lt 0 n && nat_le n MESSAGE_MAX)
  message ← bytes_where length is_message
  done (record { date = date; author = author; message = message })

unfoldable pub row_fields : ℕ → Option Bytes → Fields (List Branch)
row_fields zero before = done []
row_fields (suc n) before = do
  name ← text_field is_name before
  number ← number_where w64 any
  rows ← row_fields n (Some name)
  done (record { name = name; number = number } ∷ rows)

abbrev pub leaf_fields : Fields Record
leaf_fields = do
  count ← number_where w32 any
  entries ← entry_fields count None
  done (Record.Leaf entries)

abbrev pub inode_fields : Fields Record
inode_fields = do
  depth ← number_where w8 (λ n. nat_le n 50)
  bitmap ← number_where w32 (λ n. nat_lt 0 n)
  children ← child_fields (bits_of bitmap)
  done (Record.Inode depth children)

abbrev pub commit_fields : Fields Record
commit_fields = do
  number ← number_where w64 any
  root_name ← hash_field
  root_at ← number_where w64 any
  count ← number_where w8 (λ n. nat_le n PARENTS_MAX)
  parents ← parent_fields count
  info ← info_fields
  done (Record.Commit (record { number = number; root_name = root_name; root_at = root_at; parents = parents; info = info }))

abbrev pub set_fields : Names → Fields Record
set_fields names = do
  number ← number_where w64 any
  name ← text_field is_name None
  done (name_set names number name)

abbrev pub remove_fields : Names → Fields Record
remove_fields names = do
  name ← text_field is_name None
  done (name_remove names name)

abbrev pub table_fields : Names → Fields Record
table_fields names = do
  count ← number_where w16 (λ n. nat_le n BRANCHES_MAX)
  rows ← row_fields count None
  done (name_table names rows)

-- the fields of each kind; contents are what the body is
unfoldable pub fields_of : ℕ → Option (Fields Record)
fields_of kind =
    if kind == kinds.CONTENTS then Some (λ left. Ok (Record.Contents left.1, (left.0 + length left.1, []))) else
    if kind == kinds.LEAF then Some leaf_fields else
    if kind == kinds.INODE then Some inode_fields else
    if kind == kinds.COMMIT then Some commit_fields else
    if kind == kinds.BRANCH_SET then Some (set_fields Names.branches) else
    if kind == kinds.BRANCH_REMOVE then Some (remove_fields Names.branches) else
    if kind == kinds.BRANCH_TABLE then Some (table_fields Names.branches) else
    if kind == kinds.TAG_SET then Some (set_fields Names.tags) else
    if kind == kinds.TAG_REMOVE then Some (remove_fields Names.tags) else
    if kind == kinds.TAG_TABLE then Some (table_fields Names.tags) else None

-- tags are there from version 2 on
abbrev pub known : ℕ → ℕ → Bool
known version kind = nat_lt 0 kind && nat_le kind (if nat_le 2 version then kinds.TAG_TABLE else kinds.BRANCH_TABLE)

-- all of the body is used up
abbrev pub whole : ℕ → Result (Record × Left) ℕ → Result (Record × ℕ) RecordFault
whole n (Err at) = Err (RecordFault.Form at)
whole n (Ok (r, (at, []))) = Ok (r, n)
whole n (Ok (r, (at, b ∷ bytes))) = Err (RecordFault.Form at)

abbrev pub body_of : ℕ → Bytes → Option (Fields Record) → Result (Record × ℕ) RecordFault
body_of kind body None = Err (RecordFault.Kind kind)
body_of kind body (Some fields) = whole (5 + length body) (fields (5, body))

unfoldable pub reading : ℕ → Bytes → Result (Record × ℕ) RecordFault
reading version [] = Err RecordFault.Short
reading version (kind ∷ bytes) =
    let len = from_le_bytes w32 (take 4 bytes) in
    if not (known version kind) then Err (RecordFault.Kind kind) else
    if nat_lt (length bytes) 4 then Err RecordFault.Short else
    if kind == kinds.CONTENTS && nat_lt (contents_limit version) len then Err RecordFault.Length else
    if nat_lt (length bytes) (4 + len) then Err RecordFault.Short else
    body_of kind (take len (drop 4 bytes)) (fields_of kind)

unfoldable pub reading_runs : Unit {0}
unfolding entry_fields child_fields parent_fields row_fields fields_of reading
reading_runs = tt
