use Rattle.std.proofs.Common.{◌≡◌, ◌++◌, List, length}
use Rattle.std.specs.Prelude.{option_map}
use Rattle.ip_spec.specs.StoredParts.{entry_named}
use Rattle.ip_spec.specs.declared.record.LeafEntry.{LeafEntry}
use Rattle.ip_differ.specs.Pieces.{stored_entry}
use Rattle.ip_differ.specs.Sides.{Puts}
use Rattle.ip_differ.proofs.put.put_entries.Given as goal

abbrev pub decreases-loop-entry : goal.decreases-loop-entry
decreases-loop-entry l = length l.left.items

abbrev pub invariant-loop-entry : goal.invariant-loop-entry
invariant-loop-entry l =
    (rest : List LeafEntry) × (l.left.items ++ rest ≡ l.fn.entries) × Puts l.fn.side (λ s. option_map stored_entry (entry_named s rest)) l.fn.found.entries l.found.entries
