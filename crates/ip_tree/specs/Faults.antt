-- As what faults are counted.
use Rattle.ip_ground.specs.Counts.{Counted, as_nothing}
use Rattle.ip_space.specs.Faults.{counted_fetch}
use Rattle.ip_tree.specs.declared.tree.TreeFault.{TreeFault}
use Rattle.ip_tree.specs.declared.tree.TreeFault.TheVariants.{Limit, Fetch, Memory}

abbrev pub counted_tree : TreeFault → Counted
counted_tree (Limit limit) = as_nothing
counted_tree (Fetch fault) = counted_fetch fault
counted_tree Memory = as_nothing
