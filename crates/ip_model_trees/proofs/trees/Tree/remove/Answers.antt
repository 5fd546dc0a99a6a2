use Rattle.std.proofs.Common.{ap, sym, ◌∙◌, false}
use Rattle.std.specs.FinMap.Entries.{where_key}
use Rattle.ip_spec.specs.Path.{path_cmp}
use Rattle.ip_model_trees.specs.Parts.{beside}
use Rattle.ip_model_trees.proofs.PartLaws.{remove_parts}
use Rattle.ip_model_trees.proofs.trees.Tree.remove.Goals as goal

pub returns : goal.returns
returns c t is = c.in_ok-parts.ensures ∙ (ap (where_key path_cmp (beside c.args.path.now false)) is ∙ sym (remove_parts t c.args.path.now))
