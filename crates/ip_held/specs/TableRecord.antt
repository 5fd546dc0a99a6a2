-- The record of a table of branches.
--     table_of r      all branches of a repository, as they are
use Rattle.std.specs.Prelude.{ℕ, map}
use Rattle.ip_spec.specs.declared.record.Branch.{Branch}
use Rattle.ip_spec.specs.declared.record.Record.{Record}
use Rattle.ip_spec.specs.Path.{Bytes}
use Rattle.ip_spec.specs.Repository.{Repository}

abbrev pub branch_row : Bytes × ℕ → Branch
branch_row e = record { name = e.0; number = e.1 }

abbrev pub table_of : Repository → Record
table_of r = Record.BranchTable (map branch_row r.branches.entries)
