use Rattle.std.proofs.Common.{◌≡◌, drop}
use Rattle.ip_spec.specs.Path.{path_cmp}
use Rattle.ip_model_trees.specs.Parts.{put_all}
use Rattle.ip_model_trees.proofs.merging.with_all.Given as goal

abbrev pub invariant-loop-part : goal.invariant-loop-part
invariant-loop-part l = put_all path_cmp l.parts.items (drop l.part-index l.part-items) ≡ put_all path_cmp l.fn.tree l.part-items
