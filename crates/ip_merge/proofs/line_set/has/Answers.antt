use Rattle.std.proofs.Common.{◌∙◌}
use Rattle.ip_merge.proofs.LineLaws.{has_text}
use Rattle.ip_merge.proofs.line_set.has.Goals as goal

pub returns : goal.returns
returns c = c.contains.ensures ∙ has_text c.args.line.now c.args.lines.now.keys
