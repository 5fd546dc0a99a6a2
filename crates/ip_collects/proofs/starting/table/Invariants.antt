use Rattle.std.proofs.Common.{◌≡◌, ◌++◌, map}
use Rattle.ip_held.specs.TableRecord.{branch_row}
use Rattle.ip_tables.proofs.Keyed.{told}
use Rattle.ip_collects.proofs.starting.table.Given as goal

abbrev pub invariant-loop-name : goal.invariant-loop-name
invariant-loop-name l =
    (goal.iterator-loop-name).can_next l.name-iterator ×
    (goal.iterator-loop-name).is_finite l.name-iterator ×
    (l.rows.items ++ map branch_row (told l.name-iterator) ≡ map branch_row l.branches.entries)
