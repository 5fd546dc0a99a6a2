use Rattle.std.proofs.Common.{◌≡◌, drop}
use Rattle.std.specs.FinMap.Entries.{find}
use Rattle.ip_spec.specs.Path.{path_cmp}
use Rattle.ip_model_trees.proofs.trees.Tree.get.Given as goal

abbrev pub invariant-loop-part : goal.invariant-loop-part
invariant-loop-part l = find path_cmp l.path (drop l.part-index l.part-items) ≡ find path_cmp l.path l.part-items
