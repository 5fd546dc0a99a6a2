use Rattle.std.proofs.Common.{◌≡◌, refl, ◌⊎◌, inl, inr, ◌≤◌, length, map, ap, arith}
use Rattle.ip_spec.specs.declared.record.LeafEntry.{LeafEntry}
use Rattle.ip_audit.specs.Memory.{leaf_part, common_of, EntryPasses, LeafPasses}
use Rattle.ip_audit.specs.View.{look_of}
use Rattle.ip_audit.proofs.Agreeing.{common_long}
use Rattle.ip_audit.proofs.Loops.{each_of, on_ok}
use Rattle.ip_audit.proofs.audit.Audit.take_leaf.Goals as goal
use Rattle.ip_audit.proofs.audit.Audit.take_leaf.Goals.{After-keep, else-part-gt-LEAF_ENTRIES-via-then-part-gt-LEAF_ENTRIES+else-part-lt-DEEPEST, else-part-gt-LEAF_ENTRIES-via-else-part-gt-LEAF_ENTRIES}

passes : (c : After-keep) → LeafPasses (look_of c.args.self.now.kept) c.args.at c.args.entries.now
passes c =
    let n = ap (λ q. q.count) c.leaf_part-part.ensures.part in
    let few : (length c.args.entries.now ≤ 32) ⊎ (length (common_of (map (λ (e : LeafEntry). e.step) c.args.entries.now)) ≡ 51) = elim c.else-part-gt-LEAF_ENTRIES.branch [
      | else-part-gt-LEAF_ENTRIES-via-then-part-gt-LEAF_ENTRIES+else-part-lt-DEEPEST w ↦ inr (common_long c.leaf_part-part.result.agreed c.leaf_part-part.result.first (leaf_part c.args.entries.now).common (ap (λ q. q.common) c.leaf_part-part.ensures.part) w.if-part-lt-DEEPEST.false)
      | else-part-gt-LEAF_ENTRIES-via-else-part-gt-LEAF_ENTRIES w ↦ inl (let l = w.if-part-gt-LEAF_ENTRIES.false in omega (arith, l, n))
    ] in
    record {
      each = each_of (EntryPasses (look_of c.args.self.now.kept) c.args.at) c.args.entries.now (c.if-not-entries_pass.ensures.yes refl);
      few = few;
      bounded = let l = c.if-part-gt-DIRECTORY_ENTRIES.false in omega (arith, l, n);
    }

pub returns-clause-passes : goal.returns-clause-passes
returns-clause-passes c = on_ok c.keep.result (passes (goal.at.returns-clause-passes c).After-keep)

pub returns-clause-memory : goal.returns-clause-memory
returns-clause-memory c = λ e. passes (goal.at.returns-clause-memory c).After-keep
