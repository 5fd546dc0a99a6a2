use Rattle.std.proofs.Common.{ap, ◌∙◌, length}
use Rattle.ip_model.proofs.MachineLaws.{stat_is}
use Rattle.ip_model.proofs.machine.Machine.stat.Goals as goal

pub returns : goal.returns
returns c s is = stat_is s c.args.self.now is c.len.result c.in_ok-count_of.field-0 c.len.ensures (c.in_ok-count_of.ensures ∙ ap length c.as_slice.ensures.value)
