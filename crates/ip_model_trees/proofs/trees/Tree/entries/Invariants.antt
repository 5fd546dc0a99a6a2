use Rattle.std.proofs.Common.{◌≡◌, [], drop}
use Rattle.std.specs.Prelude.{filter_map}
use Rattle.ip_spec.specs.Path.{bytes_cmp}
use Rattle.ip_spec.specs.Tree.{Tree}
use Rattle.ip_model_trees.specs.Parts.{put_all, first_in}
use Rattle.ip_model_trees.proofs.trees.Tree.entries.Given as goal

abbrev pub invariant-loop-part : goal.invariant-loop-part
invariant-loop-part l = (t : Tree) → l.self ≡ t.entries → put_all bytes_cmp l.entries.items (filter_map (first_in t) (drop l.part-index l.part-items)) ≡ put_all bytes_cmp [] (filter_map (first_in t) l.part-items)
