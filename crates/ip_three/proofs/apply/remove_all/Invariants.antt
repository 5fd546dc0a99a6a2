use Rattle.std.proofs.Common.{◌≡◌, ℕ, take, Option}
use Rattle.std.specs.Prelude.{IsTrue}
use Rattle.ip_spec.specs.View.{View}
use Rattle.ip_spec.specs.declared.record.Record.{Record}
use Rattle.ip_three.specs.Merging.{less}
use Rattle.ip_tree.specs.Reads.{IsOver, Looks}
use Rattle.ip_tree.specs.TreeView.{IsView}
use Rattle.ip_three.proofs.apply.remove_all.Given as goal

abbrev pub invariant-loop-path : goal.invariant-loop-path
invariant-loop-path g l =
    let ground = g.G.Ground in
    record {
      made : IsTrue ground.tells → (records : ℕ → Option Record) (v : View) → IsOver (ground.told l.fn.outside) l.fn.space records → IsView records l.fn.tree v → IsView records l.tree (less v (take l.path-index l.gone));
      looks : Looks ground.tells (ground.told l.fn.outside) (ground.told l.outside) l.fn.space l.space;
      counts : ground.counts_of l.outside ≡ ground.counts_of l.fn.outside;
    }
