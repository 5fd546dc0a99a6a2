use Rattle.std.proofs.Common.{◌≡◌, ◌≤◌, map, take, drop}
use Rattle.ip_spec.specs.declared.record.LeafEntry.{LeafEntry}
use Rattle.ip_audit.specs.Memory.{common_with}
use Rattle.ip_audit.specs.View.{places_in}
use Rattle.ip_audit.proofs.measures.all_agreed.Given as goal

abbrev pub invariant-loop-entry : goal.invariant-loop-entry
invariant-loop-entry l = record {
  common : common_with (take l.agreed (places_in l.first)) (map (λ (e : LeafEntry). e.step) (drop l.entry-index l.entries)) ≡ common_with (places_in l.first) (map (λ (e : LeafEntry). e.step) l.entries);
  most : l.agreed ≤ 51;
}
