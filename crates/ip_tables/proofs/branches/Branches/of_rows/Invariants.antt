use Rattle.std.proofs.Common.{◌≡◌, map}
use Rattle.ip_spec.specs.Map.{insert_all, from_entries}
use Rattle.ip_image.specs.Standing.{row_of}
use Rattle.ip_tables.proofs.branches.Branches.of_rows.Given as goal

abbrev pub invariant-loop-row : goal.invariant-loop-row
invariant-loop-row l = insert_all l.branches (map row_of l.row-iterator.rest.items) ≡ from_entries (map row_of l.fn.rows)
