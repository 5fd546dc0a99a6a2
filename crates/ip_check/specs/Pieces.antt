-- A mapping's file while it is made and compared in pieces.
--     FitsIn pieces      what was made has room.      AreMade whole got pieces rest      the file is alike up to a place; behind it stands what was made, and then the rest
--     Compares whole got pieces rest result      what compared some of it says: alike as far as it went, or the first difference
--     rows_from place runs      the bytes of the rows
use Rattle.std.specs.Prelude.{◌≡◌, ℕ, ◌+◌, ◌≤◌, ◌++◌, List, length, drop, flat_map, Option, Some, None, Result, Ok, Err}
use Rattle.ip_spec.specs.declared.reply.Produced.TheVariants as Produced
use Rattle.ip_spec.specs.declared.reply.Difference.{Difference}
use Rattle.ip_spec.specs.Path.{Bytes}
use Rattle.ip_image.specs.declared.run.Run.{Run}
use Rattle.ip_image.specs.Virtual.{placed, row_bytes}
use Rattle.ip_image.specs.Collection.{difference}
use Rattle.ip_check.specs.Alike.{IsSoFar}
use Rattle.ip_check.specs.declared.mapping.Pieces.{Pieces}
use Rattle.ip_check.specs.declared.mapping.TheConstants.{PIECE}

abbrev pub rows_from : ℕ → List Run → Bytes
rows_from place runs = flat_map row_bytes (placed place runs)

pub record FitsIn (pieces : Pieces) : Type 0 where
  pub few : length pieces.bytes.items ≤ PIECE
  pub room : length pieces.room.items ≡ PIECE

-- how much there is to compare, up to the end of what was made
abbrev pub made_to : Pieces → ℕ
made_to pieces = pieces.place + length pieces.bytes.items

pub record AreMade (whole : Bytes) (got : Option Bytes) (pieces : Pieces) (rest : Bytes) : Type 0 where
  pub inside : pieces.place ≤ length whole
  pub is : drop pieces.place whole ≡ pieces.bytes.items ++ rest
  pub so_far : IsSoFar whole got pieces.place

abbrev pub Compares : {E : Type 0} → Bytes → Option Bytes → Pieces → Bytes → Result (Option Difference) E → Type 0
Compares whole got pieces rest (Ok None) = AreMade whole got pieces rest
Compares whole got pieces rest (Ok (Some found)) = difference Produced.Mapping whole got ≡ Some found
Compares whole got pieces rest (Err fault) = Unit {0}
