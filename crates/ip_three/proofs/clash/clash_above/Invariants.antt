use Rattle.std.proofs.Common.{◌≡◌, ◌<◌, ℕ, Option, false, take}
use Rattle.std.specs.Option.{option_copied}
use Rattle.std.specs.Prelude.{IsTrue}
use Rattle.ip_spec.specs.View.{View}
use Rattle.ip_spec.specs.declared.record.Record.{Record}
use Rattle.ip_tree.specs.Reads.{IsOver, Looks}
use Rattle.ip_tree.specs.TreeView.{IsView}
use Rattle.ip_three.specs.Clashes.{is_met}
use Rattle.ip_three.proofs.clash.clash_above.Given as goal

abbrev pub invariant-loop-count : goal.invariant-loop-count
invariant-loop-count g l =
    let ground = g.G.Ground in
    record {
      none : IsTrue ground.tells → (records : ℕ → Option Record) (v : View) → IsOver (ground.told l.fn.outside) l.fn.space records → IsView records l.tree v
          → (i : ℕ) → i < l.count → is_met v.map (option_copied l.last) (take i l.path) ≡ false;
      looks : Looks ground.tells (ground.told l.fn.outside) (ground.told l.outside) l.fn.space l.space;
      counts : ground.counts_of l.outside ≡ ground.counts_of l.fn.outside;
    }
