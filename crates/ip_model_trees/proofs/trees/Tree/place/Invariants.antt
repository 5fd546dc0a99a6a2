use Rattle.std.proofs.Common.{◌≡◌, true, map, drop}
use Rattle.std.specs.FinMap.Entries.{where_key}
use Rattle.ip_spec.specs.Path.{path_cmp}
use Rattle.ip_model_trees.specs.Parts.{put_all, beside, moved}
use Rattle.ip_model_trees.proofs.trees.Tree.place.Given as goal

abbrev pub invariant-loop-part : goal.invariant-loop-part
invariant-loop-part l = put_all path_cmp l.parts.items (map (moved l.path) (drop l.part-index l.part-items)) ≡ put_all path_cmp (where_key path_cmp (beside l.path true) l.self) (map (moved l.path) l.part-items)
