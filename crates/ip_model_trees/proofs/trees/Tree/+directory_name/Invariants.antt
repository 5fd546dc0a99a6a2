use Rattle.std.proofs.Common.{◌≡◌, ◌-◌, map, take}
use Rattle.ip_spec.specs.Tree.{Tree, entries_of}
use Rattle.ip_model_trees.specs.Names.{paired, child_to}
use Rattle.ip_model_trees.specs.Small.{IsSmall}
use Rattle.ip_model_trees.proofs.trees.Tree.+directory_name.Given as goal

abbrev pub decreases-directory_name : goal.decreases-directory_name
decreases-directory_name l = l.levels

abbrev pub invariant-loop-entry : goal.invariant-loop-entry
invariant-loop-entry l = (t : Tree) → IsSmall t → l.self ≡ t.entries → map paired l.named.items ≡ map (λ e. (e.0, child_to (l.fn.levels - 1) e.1)) (take l.entry-index (entries_of t).entries)
