use Rattle.std.proofs.Common.{◌+◌, ◌-◌, ◌*◌, ◌<◌, min, List, drop}
use Rattle.ip_spec.specs.Shape.{deepest}
use Rattle.ip_tree.specs.declared.node.Stored.{Stored}
use Rattle.ip_save.specs.Laid.{IsReady, lay_at, lay_children, lay_part, lay_steps, nodes_in}
use Rattle.ip_save.proofs.Laying.{RowsOn}
use Rattle.ip_save.proofs.lay.+lay.Given as goal

abbrev pub decreases-put_node : goal.decreases-put_node
decreases-put_node l = 4096 * goal.size-put_node l

abbrev pub decreases-put_directory : goal.decreases-put_directory
decreases-put_directory l = 4096 * goal.size-put_directory l + 2200

abbrev pub decreases-put_part : goal.decreases-put_part
decreases-put_part l = 4096 * goal.size-put_part l + 8 * (256 - l.depth) + 4 * min 1 (51 - l.depth) + 1

abbrev pub decreases-put_new_part : goal.decreases-put_new_part
decreases-put_new_part l = 4096 * goal.size-put_new_part l + 8 * (256 - l.depth) + 4 * min 1 (51 - l.depth)

abbrev pub decreases-put_children : goal.decreases-put_children
decreases-put_children l = 4096 * goal.size-put_children l + 8 * (256 - l.depth) + 3

abbrev pub decreases-put_some : goal.decreases-put_some
decreases-put_some l = 4096 * goal.size-put_some l + 8 * (256 - l.depth) + 2

abbrev pub decreases-put_entries : goal.decreases-put_entries
decreases-put_entries l = 4096 * goal.size-put_entries l + 2

abbrev pub decreases-put_at : goal.decreases-put_at
decreases-put_at l = 4096 * goal.size-put_at l + 1

abbrev pub invariant-put_entries-loop-step : goal.invariant-put_entries-loop-step
invariant-put_entries-loop-step l =
    (refs : List Stored) → IsReady l.dir refs l.starts l.end
    → RowsOn l.end (lay_steps (lay_at (nodes_in l.dir) refs) (drop l.step-index l.steps)) (lay_steps (lay_at (nodes_in l.dir) refs) l.steps) l.out.items l.fn.out.items l.leaf

abbrev pub invariant-put_children-loop-index : goal.invariant-put_children-loop-index
invariant-put_children-loop-index l =
    (refs : List Stored) → IsReady l.dir refs l.starts l.end → l.depth < deepest
    → RowsOn l.end (lay_children (lay_at (nodes_in l.dir) refs) (lay_part (lay_at (nodes_in l.dir) refs) (deepest - (l.depth + 1)) (l.depth + 1)) l.index (drop l.index l.children))
    (lay_children (lay_at (nodes_in l.dir) refs) (lay_part (lay_at (nodes_in l.dir) refs) (deepest - (l.depth + 1)) (l.depth + 1)) 0 l.children) l.out.items l.fn.out.items l.row
