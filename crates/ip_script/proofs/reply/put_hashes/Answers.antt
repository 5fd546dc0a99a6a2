use Rattle.std.proofs.Common.{◌∷◌}
use Rattle.ip_spec.specs.Text.{hex_text}
use Rattle.ip_base.specs.declared.hash.Hash.{Hash}
use Rattle.ip_base.specs.PathText.{space}
use Rattle.ip_script.proofs.PutLemmas.{put_room, on_err}
use Rattle.ip_script.proofs.reply.put_hashes.Goals as goal

pub returns-in_err-put_hash-clause-room : goal.returns-in_err-put_hash-clause-room
returns-in_err-put_hash-clause-room c =
    on_err c.from_residual.result (put_room (λ (h : Hash). space ∷ hex_text h) c.args.hashes.now c.loop-hash.hash-index c.hash-item.result _ _ _ _ _ c.loop-hash-test.true c.hash-item.is c.loop-hash.invariant.long c.loop-hash.invariant.capacity c.in_err-put_hash.ensures.room)
