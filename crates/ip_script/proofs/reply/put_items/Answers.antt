use Rattle.std.proofs.Common.{◌∷◌, ◌++◌}
use Rattle.ip_spec.specs.Text.{kind_text}
use Rattle.ip_spec.specs.declared.tree.Item.{Item}
use Rattle.ip_base.specs.PathText.{space}
use Rattle.ip_script.proofs.PutLemmas.{put_room, on_err}
use Rattle.ip_script.proofs.reply.put_items.Goals as goal

pub returns-in_err-put_item-clause-room : goal.returns-in_err-put_item-clause-room
returns-in_err-put_item-clause-room c =
    on_err c.from_residual.result (put_room (λ (e : Item). space ∷ (kind_text e.dir ++ e.step)) c.args.items.now c.loop-item.item-index c.item-item.result _ _ _ _ _ c.loop-item-test.true c.item-item.is c.loop-item.invariant.long c.loop-item.invariant.capacity c.in_err-put_item.ensures.room)
