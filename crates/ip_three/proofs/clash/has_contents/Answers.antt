use Rattle.std.proofs.Common.{sym, ◌∙◌}
use Rattle.std.specs.Option.{option_copied}
use Rattle.std.specs.Prelude.{option_map}
use Rattle.ip_tree.specs.Finding.{as_node}
use Rattle.ip_three.proofs.ClashCalls.{met_here}
use Rattle.ip_three.proofs.SidesFound.{holds_placed}
use Rattle.ip_three.proofs.clash.has_contents.Goals as goal

pub returns-in-Ok-clause-contents : goal.returns-in-Ok-clause-contents
returns-in-Ok-clause-contents g c tells records v over is =
    let path = c.args.path.now in
    c.is_contents.ensures ∙ holds_placed records v path (option_map as_node c.in-Ok.place) (c.in-Ok.ensures.place tells records v over is)
    ∙ met_here v.map (option_copied c.args.last) path (sym c.is_last.ensures ∙ c.if-is_last.false)
