use Rattle.std.proofs.Common.{◌∙◌}
use Rattle.std.specs.Prelude.{option_map}
use Rattle.ip_tree.specs.Finding.{as_node}
use Rattle.ip_three.proofs.SidesFound.{holds_is}
use Rattle.ip_three.proofs.side.holds_contents.Goals as goal

pub returns : goal.returns
returns c records w p is = c.is_contents.ensures ∙ holds_is records w p (option_map as_node c.args.place.now) is
