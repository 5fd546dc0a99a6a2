use Rattle.std.proofs.Common.{◌≡◌, [], drop}
use Rattle.std.specs.Prelude.{filter_map}
use Rattle.ip_spec.specs.Path.{path_cmp}
use Rattle.ip_model_trees.specs.Parts.{put_all}
use Rattle.ip_model_trees.specs.Merging.{kept}
use Rattle.ip_model_trees.proofs.merging.values.Given as goal

abbrev pub invariant-loop-answer : goal.invariant-loop-answer
invariant-loop-answer l = put_all path_cmp l.parts.items (filter_map kept (drop l.answer-index l.answers)) ≡ put_all path_cmp [] (filter_map kept l.answers)
