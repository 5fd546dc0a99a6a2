-- Lists of fields.
use Rattle.std.specs.Prelude.{◌≡◌, ℕ, ◌+◌, ◌-◌, nat_le, nat_lt, None, [], ◌/◌, ◌%◌, ◌^◌, ◌==◌, List, ◌++◌, length, slice_get, filter, Option, option_map, Result, Ok, Err}
use Rattle.std.specs.List.{range_with_len}
use Rattle.ip_spec.specs.declared.record.InodeChild.{InodeChild}
use Rattle.ip_spec.specs.Path.{Bytes}
use Rattle.ip_spec.specs.Record.{short_text, u8, u32}
use Rattle.ip_base.specs.declared.info.Info.{Info}
use Rattle.ip_spec.specs.declared.record.CommitRecord.{CommitRecord}
use Rattle.ip_spec.specs.declared.record.Record.{Record}
use Rattle.ip_spec.specs.declared.record.Ref.{Ref}
use Rattle.ip_spec.specs.declared.record.LeafEntry.{LeafEntry}
use Rattle.ip_spec.specs.declared.record.Parent.{Parent}
use Rattle.ip_spec.specs.declared.record.Branch.{Branch}
use Rattle.ip_spec.specs.Reading.{Fields, Left, ◌>>=◌, done, number_where, text_field, hash_field, is_name, any, child_fields, bits_of, row_fields}
use Rattle.std.specs.Int.{w8, w16, w32, w64}
use Rattle.ip_base.specs.declared.limit.TheConstants.{BRANCHES_MAX}

-- the step of the last entry
abbrev pub last_step : List LeafEntry → Option Bytes
last_step entries = option_map (λ e. e.step) (slice_get entries (length entries - 1))

-- the name of the last row
abbrev pub last_name : List Branch → Option Bytes
last_name rows = option_map (λ row. row.name) (slice_get rows (length rows - 1))

-- one parent of a commit
abbrev pub parent_field : Fields Parent
parent_field = do
  number ← number_where w64 any
  name ← hash_field
  done (record { number = number; name = name })

-- one row of a table
abbrev pub row_field : Option Bytes → Fields Branch
row_field before = do
  name ← text_field is_name before
  number ← number_where w64 any
  done (record { name = name; number = number })

-- these elements in front of those that are still to be read
abbrev pub led : {X : Type 0} → List X → Result (List X × Left) ℕ → Result (List X × Left) ℕ
led es (Ok read) = Ok (es ++ read.0, read.1)
led es (Err at) = Err at

-- the children of an inode with this bitmap
unfoldable pub children_of_bits : ℕ → Fields (List InodeChild)
children_of_bits bitmap = child_fields (bits_of bitmap)

-- the bits that are set, from one on
unfoldable pub bits_from : ℕ → ℕ → List ℕ
bits_from bitmap i = filter (λ k. bitmap / 2 ^ k % 2 == 1) (range_with_len i (32 - i))

-- the children below a bit were read, and those from it on are still to be read
abbrev pub ReadBelow : ℕ → ℕ → List InodeChild → Left → Left → Type 0
ReadBelow bitmap i cs old now = children_of_bits bitmap old ≡ led cs (child_fields (bits_from bitmap i) now)

-- contents are what is left of the body
abbrev pub contents_fields : Fields Record
contents_fields left = Ok (Record.Contents left.1, (left.0 + length left.1, []))

-- an inode, its children by the bits of its bitmap
abbrev pub inode_by_bits : Fields Record
inode_by_bits = do
  depth ← number_where w8 (λ n. nat_le n 50)
  bitmap ← number_where w32 (λ n. nat_lt 0 n)
  children ← children_of_bits bitmap
  done (Record.Inode depth children)

-- the number and the name of a branch or a tag
abbrev pub set_field : Fields (ℕ × Bytes)
set_field = do
  number ← number_where w64 any
  name ← text_field is_name None
  done (number, name)

-- the rows of a table, behind their number
abbrev pub rows_field : Fields (List Branch)
rows_field = number_where w16 (λ n. nat_le n BRANCHES_MAX) >>= λ count. row_fields count None

-- the record of a commit whose root is at the reference
abbrev pub commit_of : ℕ → Ref → List Parent → Info → CommitRecord
commit_of number root parents info = record { number = number; root_name = root.name; root_at = root.at; parents = parents; info = info }

-- something may stand behind what was there
abbrev pub Extends : Bytes → Bytes → Type 0
Extends old new = (more : Bytes) × (new ≡ old ++ more)

-- what the name of a leaf takes from an entry
abbrev pub hashed_entry : LeafEntry → Bytes
hashed_entry e = short_text e.step ++ u8 e.kind ++ e.name

-- what the name of an inode takes from a child
abbrev pub hashed_child : InodeChild → Bytes
hashed_child c = u32 c.count ++ c.name
