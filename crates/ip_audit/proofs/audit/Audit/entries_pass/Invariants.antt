use Rattle.std.proofs.Common.{ℕ, ◌<◌, slice_index_or}
use Rattle.ip_audit.specs.Memory.{EntryPasses}
use Rattle.ip_audit.specs.View.{look_of}
use Rattle.ip_spec.specs.declared.record.LeafEntry.{LeafEntry}
use Rattle.ip_audit.proofs.audit.Audit.entries_pass.Given as goal

abbrev pub invariant-loop-entry : goal.invariant-loop-entry
invariant-loop-entry l = (k : ℕ) (d : LeafEntry) → k < l.entry-index → EntryPasses (look_of l.self.kept) l.at (slice_index_or l.entries k d)
