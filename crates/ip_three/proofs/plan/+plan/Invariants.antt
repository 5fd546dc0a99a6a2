use Rattle.std.proofs.Common.{◌≡◌, ◌+◌, ◌*◌, ◌-◌, ◌++◌, ◌∷◌, [], ℕ, length, Option, option_map}
use Rattle.std.specs.Prelude.{IsTrue}
use Rattle.ip_spec.specs.Path.{Step}
use Rattle.ip_spec.specs.View.{View}
use Rattle.ip_spec.specs.declared.record.Record.{Record}
use Rattle.ip_tree.specs.Finding.{as_node}
use Rattle.ip_tree.specs.Reads.{IsOver, Looks}
use Rattle.ip_tree.specs.TreeView.{IsView}
use Rattle.ip_differ.specs.Differing.{IsDirectoryAt}
use Rattle.ip_three.specs.Going.{IsBehind}
use Rattle.ip_three.specs.Merging.{is_merged}
use Rattle.ip_three.specs.Walking.{Begins, as_plan}
use Rattle.ip_three.proofs.Between.{Between}
use Rattle.ip_three.proofs.plan.+plan.Given as goal

-- No path of a tree has more than 64 steps.
abbrev pub decreases-plan_entries : goal.decreases-plan_entries
decreases-plan_entries g l = 2 * (64 - length l.path.now)

abbrev pub decreases-plan_step : goal.decreases-plan_step
decreases-plan_step g l = 2 * (64 - length l.path.now) + 1

abbrev pub invariant-plan_entries-loop-step : goal.invariant-plan_entries-loop-step
invariant-plan_entries-loop-step g l =
    let ground = g.G.Ground in
    let rule = g.D.Decides.rule l.fn.rules in
    record {
      next : (goal.iterator-plan_entries-loop-step g).can_next l.step-iterator;
      finite : (goal.iterator-plan_entries-loop-step g).is_finite l.step-iterator;
      between : IsTrue ground.tells → (records : ℕ → Option Record) (b v r : View) → IsOver (ground.told l.fn.outside) l.fn.space records → IsView records l.fn.left v → IsDirectoryAt records b l.fn.path (option_map as_node l.fn.places.base)
          → IsDirectoryAt records r l.fn.path (option_map as_node l.fn.places.right) → ((s : Step) → IsTrue (is_merged b v r (l.fn.path ++ s ∷ []))) → Begins rule records b v r l.fn.plan → IsBehind l.fn.path (as_plan l.fn.plan)
          → Between rule records b v r l.fn.path l.fn.places.base l.fn.places.right l.fn.plan l.step-iterator l.left l.plan;
      looks : Looks ground.tells (ground.told l.fn.outside) (ground.told l.outside) l.fn.space l.space;
      counts : ground.counts_of l.outside ≡ ground.counts_of l.fn.outside;
    }
