use Rattle.std.proofs.Common.{◌≡◌, [], drop}
use Rattle.std.specs.Prelude.{filter_map}
use Rattle.ip_spec.specs.Path.{bytes_cmp}
use Rattle.ip_spec.specs.Tree.{Tree}
use Rattle.ip_model_trees.specs.Parts.{put_all, step_in}
use Rattle.ip_model_trees.proofs.trees.Tree.entry_count.Given as goal

abbrev pub invariant-loop-part : goal.invariant-loop-part
invariant-loop-part l = (t : Tree) → l.self ≡ t.entries → put_all bytes_cmp l.steps.items (filter_map (step_in t) (drop l.part-index l.part-items)) ≡ put_all bytes_cmp [] (filter_map (step_in t) l.part-items)
