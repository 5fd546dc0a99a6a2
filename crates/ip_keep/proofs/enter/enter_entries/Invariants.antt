use Rattle.std.proofs.Common.{map, take}
use Rattle.ip_spec.specs.declared.record.LeafEntry.{LeafEntry}
use Rattle.ip_keep.specs.Entering.{Gains}
use Rattle.ip_keep.proofs.enter.enter_entries.Given as goal

abbrev pub invariant-loop-entry : goal.invariant-loop-entry
invariant-loop-entry l = Gains l.fn.waiting.keys l.waiting.keys (map (λ (e : LeafEntry). e.at) (take l.entry-index l.entries)) l.below
