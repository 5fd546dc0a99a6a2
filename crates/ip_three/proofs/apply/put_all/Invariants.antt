use Rattle.std.proofs.Common.{◌≡◌, ℕ, List, ◌++◌, Option}
use Rattle.std.specs.Prelude.{All, IsTrue}
use Rattle.ip_spec.specs.View.{View}
use Rattle.ip_spec.specs.declared.record.Record.{Record}
use Rattle.ip_three.specs.Applying.{IsFound, as_edits}
use Rattle.ip_three.specs.Merging.{more}
use Rattle.ip_three.specs.declared.apply.Edit.{Edit}
use Rattle.ip_tree.specs.Reads.{IsOver, Looks}
use Rattle.ip_tree.specs.TreeView.{IsView}
use Rattle.ip_tree.specs.declared.tree.Tree.{Tree}
use Rattle.ip_three.proofs.apply.put_all.Given as goal

-- what was put is a front of all
abbrev pub invariant-loop-edit : goal.invariant-loop-edit
invariant-loop-edit g l =
    let ground = g.G.Ground in
    (done : List Edit) × (done ++ l.edit-iterator.rest.items ≡ l.fn.come.items)
    × (IsTrue ground.tells → (records : ℕ → Option Record) (v r : View) (right : Tree) → IsOver (ground.told l.fn.outside) l.fn.space records → IsView records l.fn.tree v → IsView records right r
    → All (IsFound records r) l.fn.come.items → IsView records l.tree (more r v (as_edits done)))
    × Looks ground.tells (ground.told l.fn.outside) (ground.told l.outside) l.fn.space l.space × (ground.counts_of l.outside ≡ ground.counts_of l.fn.outside)
