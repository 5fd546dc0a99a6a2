use Rattle.std.proofs.Common.{ap, sym, ◌∙◌}
use Rattle.ip_spec.specs.Path.{Bytes}
use Rattle.ip_spec.specs.declared.reply.Reply.TheVariants as Reply
use Rattle.ip_model.proofs.MachineLaws.{hash_is}
use Rattle.ip_model.proofs.machine.Machine.hash.Goals as goal

pub returns : goal.returns
returns c s = hash_is s c.args.bytes.now ∙ ap (λ (h : Bytes). (Reply.Hash h, s)) (sym c.contents_name.ensures)
