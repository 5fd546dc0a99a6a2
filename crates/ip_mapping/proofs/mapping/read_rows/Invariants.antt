-- The rows read so far are in order, and what is left spells the others.
use Rattle.std.proofs.Common.{◌≡◌, ◌++◌, length}
use Rattle.std.specs.Prelude.{flat_map}
use Rattle.ip_image.specs.Virtual.{row_bytes}
use Rattle.ip_mapping.specs.Parsing.{AreNumbers}
use Rattle.ip_mapping.proofs.Order.{SoFar}
use Rattle.ip_mapping.proofs.mapping.read_rows.Given as goal

abbrev pub invariant-loop-row : goal.invariant-loop-row
invariant-loop-row l = record {
  read : l.bytes ≡ flat_map row_bytes l.rows.items ++ l.left;
  numbers : AreNumbers l.rows.items;
  known : SoFar l.head.horizon l.from l.place l.rows.items;
}

abbrev pub decreases-loop-row : goal.decreases-loop-row
decreases-loop-row l = length l.left
