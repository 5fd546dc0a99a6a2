use Rattle.std.proofs.Common.{◌++◌, ap, ◌∙◌}
use Rattle.ip_held.proofs.Spelling.{before, after, spelled}
use Rattle.ip_opens.proofs.making.fresh_control.Goals as goal

pub returns : goal.returns
unfolding before after
returns c = ap (λ v. before ++ (v ++ after)) (c.copy_from_slice.ensures.after ∙ c.to_le_bytes.ensures) ∙ spelled c.args.chunk
