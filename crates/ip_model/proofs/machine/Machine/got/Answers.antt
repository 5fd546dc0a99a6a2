use Rattle.std.proofs.Common.{ap, ◌∙◌}
use Rattle.ip_spec.specs.Repository.{tree_at}
use Rattle.ip_spec.specs.Step.{got_reply}
use Rattle.ip_model.proofs.machine.Machine.got.Goals as goal

pub returns : goal.returns
returns c s is = c.got_reply.ensures ∙ ap got_reply (c.in_ok-got.ensures (tree_at s.repository c.args.number) (c.in_ok-tree.ensures s is))
