use Rattle.std.proofs.Common.{◌≡◌, ◌+◌, ℕ, List, Option, drop}
use Rattle.std.specs.Prelude.{IsTrue}
use Rattle.std.specs.FinMap.Entries.{find}
use Rattle.ip_spec.specs.Path.{Step, bytes_cmp}
use Rattle.ip_spec.specs.Shape.{Entries, deepest}
use Rattle.ip_spec.specs.TreeAt.{ChildrenAt}
use Rattle.ip_spec.specs.declared.record.Record.{Record}
use Rattle.ip_tree.specs.Listing.{kind_of, kind_or}
use Rattle.std.specs.Prelude.{option_map}
use Rattle.ip_tree.specs.Reads.{IsOver, IsPartRef, Looks}
use Rattle.ip_tree.proofs.KindsPut.{all_kinds}
use Rattle.ip_tree.proofs.below.+gather.Given as goal

abbrev pub decreases-gather : goal.decreases-gather
decreases-gather g l = l.levels

abbrev pub invariant-loop-child : goal.invariant-loop-child
invariant-loop-child g l =
    let ground = g.G.Ground in
    record {
      kinds : IsTrue ground.tells → (records : ℕ → Option Record) (depth : ℕ) (es : Entries) → IsOver (ground.told l.fn.outside) l.fn.space records → depth + l.fn.levels ≡ deepest → IsPartRef records depth l.fn.reference es
          → (xs : List (ℕ × Entries)) × ChildrenAt records depth l.fn.reference.at (drop l.child-index l.child-items) xs
          × ((s : Step) → all_kinds s xs (find bytes_cmp s l.found.entries) ≡ kind_or (option_map kind_of (find bytes_cmp s es)) (find bytes_cmp s l.fn.found.entries));
      looks : Looks ground.tells (ground.told l.fn.outside) (ground.told l.outside) l.fn.space l.space;
      counts : ground.counts_of l.outside ≡ ground.counts_of l.fn.outside;
    }
