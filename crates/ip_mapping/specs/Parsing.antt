-- Which bytes are a mapping, and where others go wrong.
--     Fields      what a mapping tells: two numbers, and its rows
--     IsForm bytes m      the length, the magic and the numbers are right, and these are the rows, in whatever order
--     IsMapping bytes m      and the rows are in order
--     IsBadAt bytes at      the place of the first test that fails
--     Begins bytes head      bytes that begin with the magic and these numbers.      head_of m      those of a mapping
--     IsRowAt m at row      this row's run has the offset
use Rattle.std.specs.Prelude.{◌≡◌, ℕ, ◌+◌, ◌-◌, ◌*◌, ◌<◌, ◌≤◌, List, [], ◌∷◌, ◌++◌, length, map, Contains, codes, Some, None, Result, Ok, Err}
use Rattle.std.specs.List.{AllByRecursion}
use Rattle.ip_spec.specs.Path.{Bytes}
use Rattle.ip_spec.specs.Record.{u64, IsU64}
use Rattle.ip_image.specs.declared.run.Row.{Row}
use Rattle.ip_image.specs.Virtual.{run_of, mapping_file, RowsFit, locate}
use Rattle.ip_mapping.specs.declared.head.Head.{Head}
use Rattle.ip_mapping.specs.declared.fault.MappingFault.{MappingFault}

-- what a mapping tells
pub record Fields : Type 0 where
  pub horizon : ℕ
  pub end : ℕ
  pub rows : List Row

-- each number of each row fits its eight bytes
abbrev pub AreNumbers : List Row → Type 0
AreNumbers rows = AllByRecursion (λ row. IsU64 row.at × IsU64 row.length × IsU64 row.place) rows

-- A mapping by its length, magic and numbers. Of the two first numbers it asks nothing: what they have to be, the live slot says.
pub record IsForm (bytes : Bytes) (m : Fields) : Type 0 where
  pub file : bytes ≡ mapping_file m.horizon m.end m.rows
  pub horizon : IsU64 m.horizon
  pub end : IsU64 m.end
  pub count : IsU64 (length m.rows)
  pub numbers : AreNumbers m.rows

-- and its rows ascend without touching, end at or below the horizon, and have true places
pub record IsMapping (bytes : Bytes) (m : Fields) : Type 0 where
  pub form : IsForm bytes m
  pub fits : RowsFit m.horizon m.rows

-- the length, the magic and the numbers go wrong at 0, a row at its first byte
pub data IsBadAt (bytes : Bytes) : ℕ → Type 0 where
  no_form : ((m : Fields) → ¬ (IsForm bytes m)) → IsBadAt bytes 0
  no_row : (m : Fields) (before after : List Row) (row : Row) → IsForm bytes m → m.rows ≡ before ++ row ∷ after
      → RowsFit m.horizon before → ¬ (RowsFit m.horizon (before ++ row ∷ [])) → IsBadAt bytes (32 + 24 * length before)

-- Memory is taken for rows alone, so want of it is answered only where the length, the magic and the numbers are right. Of the rows' order it says nothing.
abbrev pub Parses : Bytes → Result Fields MappingFault → Type 0
Parses bytes (Ok m) = IsMapping bytes m
Parses bytes (Err (MappingFault.Form at)) = IsBadAt bytes at
Parses bytes (Err MappingFault.Memory) = (m : Fields) × IsForm bytes m

-- the bytes in front of the rows
abbrev pub head_bytes : Head → Bytes
head_bytes head = codes "IPMAP001" ++ u64 head.horizon ++ u64 head.end ++ u64 head.rows

-- those of a mapping
abbrev pub head_of : Fields → Head
head_of m = record { horizon = m.horizon; end = m.end; rows = length m.rows }

abbrev pub Begins : Bytes → Head → Type 0
Begins bytes head = (rest : Bytes) × (bytes ≡ head_bytes head ++ rest)

-- The row's run has the offset. Its bytes stand side by side in the prefix, and behind its last offset one is missing.
pub record IsRowAt (m : Fields) (at : ℕ) (row : Row) : Type 0 where
  pub one : Contains m.rows row
  pub from : row.at ≤ at
  pub to : at < row.at + row.length
  pub below : row.at + row.length ≤ m.horizon
  pub place : row.place ≤ row.at
  pub side_by_side : (k : ℕ) → row.at ≤ k → k < row.at + row.length → locate (map run_of m.rows) k ≡ Some (row.place + (k - row.at))
  pub missing : locate (map run_of m.rows) (row.at + row.length) ≡ None
