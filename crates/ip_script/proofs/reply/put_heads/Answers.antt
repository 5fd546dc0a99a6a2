use Rattle.std.proofs.Common.{◌∷◌, ◌++◌}
use Rattle.ip_spec.specs.Text.{hex_text}
use Rattle.ip_spec.specs.declared.reply.Head.{Head}
use Rattle.ip_base.specs.PathText.{space}
use Rattle.ip_script.proofs.PutLemmas.{put_room, on_err}
use Rattle.ip_script.proofs.reply.put_heads.Goals as goal

pub returns-in_err-put_head-clause-room : goal.returns-in_err-put_head-clause-room
returns-in_err-put_head-clause-room c =
    on_err c.from_residual.result (put_room (λ (e : Head). space ∷ (e.branch ++ space ∷ hex_text e.name)) c.args.heads.now c.loop-head.head-index c.head-item.result _ _ _ _ _ c.loop-head-test.true c.head-item.is c.loop-head.invariant.long c.loop-head.invariant.capacity c.in_err-put_head.ensures.room)
