use Rattle.std.proofs.Common.{◌≡◌, ◌++◌, take, flat_map}
use Rattle.ip_spec.specs.Record.{short_text, u64}
use Rattle.ip_object.proofs.encode.put_rows.Given as goal

abbrev pub invariant-loop-row : goal.invariant-loop-row
invariant-loop-row l = l.out.items ≡ l.fn.out.items ++ flat_map (λ row. short_text row.name ++ u64 row.number) (take l.row-index l.rows)
