use Rattle.std.proofs.Common.{◌≡◌, [], drop}
use Rattle.std.specs.Prelude.{filter_map}
use Rattle.ip_spec.specs.Path.{path_cmp}
use Rattle.ip_model_trees.specs.Parts.{put_all, rest_of}
use Rattle.ip_model_trees.proofs.trees.Tree.subtree.Given as goal

abbrev pub invariant-loop-part : goal.invariant-loop-part
invariant-loop-part l = put_all path_cmp l.parts.items (filter_map (rest_of l.path) (drop l.part-index l.part-items)) ≡ put_all path_cmp [] (filter_map (rest_of l.path) l.part-items)
