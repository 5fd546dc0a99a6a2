use Rattle.std.proofs.Common.{◌≡◌, ◌++◌, drop}
use Rattle.std.specs.FinMap.Entries.{where_key}
use Rattle.ip_spec.specs.Path.{path_cmp}
use Rattle.ip_model_trees.specs.Parts.{beside}
use Rattle.ip_model_trees.proofs.trees.Tree.beside.Given as goal

abbrev pub invariant-loop-part : goal.invariant-loop-part
invariant-loop-part l = l.parts.items ++ where_key path_cmp (beside l.path l.above) (drop l.part-index l.part-items) ≡ where_key path_cmp (beside l.path l.above) l.part-items
