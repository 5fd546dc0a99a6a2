use Rattle.std.proofs.Common.{◌≡◌, ℕ, Option}
use Rattle.std.specs.Prelude.{IsTrue}
use Rattle.ip_spec.specs.View.{View}
use Rattle.ip_spec.specs.declared.record.Record.{Record}
use Rattle.ip_tree.specs.Reads.{IsOver, Looks}
use Rattle.ip_tree.specs.TreeView.{IsView}
use Rattle.ip_three.specs.Applying.{as_edits}
use Rattle.ip_three.specs.Clashes.{clash_of}
use Rattle.ip_three.specs.Walking.{AreTaken}
use Rattle.ip_three.proofs.ClashCalls.{Rest}
use Rattle.ip_three.proofs.clash.clash.Given as goal

abbrev pub invariant-loop-i : goal.invariant-loop-i
invariant-loop-i g l =
    let ground = g.G.Ground in
    record {
      rest : IsTrue ground.tells → (records : ℕ → Option Record) (v r : View) → IsOver (ground.told l.fn.outside) l.fn.space records → IsView records l.tree v → AreTaken records r l.come
          → Rest v.map r l.come l.i l.last ≡ clash_of v.map r (as_edits l.come);
      looks : Looks ground.tells (ground.told l.fn.outside) (ground.told l.outside) l.fn.space l.space;
      counts : ground.counts_of l.outside ≡ ground.counts_of l.fn.outside;
    }
