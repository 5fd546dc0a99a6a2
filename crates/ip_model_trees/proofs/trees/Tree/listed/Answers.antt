use Rattle.std.proofs.Common.{ap, ◌∙◌, map}
use Rattle.ip_model_trees.specs.Parts.{item_in}
use Rattle.ip_model_trees.proofs.PartLaws.{listed_directory}
use Rattle.ip_model_trees.proofs.trees.Tree.listed.Goals as goal

pub returns : goal.returns
returns c u is =
    listed_directory u c.args.self.now c.args.is_nothing c.is_contents.result c.in_ok-listing.field-0 c.in_ok-entries.entries.items is c.is_contents.ensures c.if-is_contents.false c.if-is_nothing.false
    (c.in_ok-listing.ensures ∙ ap (map item_in) c.as_slice.ensures.value) (c.in_ok-entries.ensures u is)
