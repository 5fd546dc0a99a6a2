use Rattle.std.proofs.Common.{◌≡◌, ◌++◌, List, length}
use Rattle.std.specs.FinMap.Entries.{find}
use Rattle.ip_spec.specs.Path.{Step, bytes_cmp}
use Rattle.ip_spec.specs.declared.record.LeafEntry.{LeafEntry}
use Rattle.ip_tree.specs.Listing.{entry_kind, kind_or}
use Rattle.ip_tree.proofs.below.put_kinds.Given as goal

abbrev pub decreases-loop-entry : goal.decreases-loop-entry
decreases-loop-entry l = length l.left.items

abbrev pub invariant-loop-entry : goal.invariant-loop-entry
invariant-loop-entry l =
    (rest : List LeafEntry) × (l.left.items ++ rest ≡ l.fn.entries) × ((s : Step) → find bytes_cmp s l.found.entries ≡ kind_or (entry_kind s rest) (find bytes_cmp s l.fn.found.entries))
