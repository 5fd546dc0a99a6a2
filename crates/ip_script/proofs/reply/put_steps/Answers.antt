use Rattle.std.proofs.Common.{◌∷◌, List, ℕ}
use Rattle.ip_base.specs.PathText.{slash}
use Rattle.ip_script.proofs.PutLemmas.{put_room, on_err}
use Rattle.ip_script.proofs.reply.put_steps.Goals as goal

pub returns-in_err-put_step-clause-room : goal.returns-in_err-put_step-clause-room
returns-in_err-put_step-clause-room c =
    on_err c.from_residual.result (put_room (λ (s : List ℕ). slash ∷ s) c.args.steps.now c.loop-step.step-index c.step-item.result _ _ _ _ _ c.loop-step-test.true c.step-item.is c.loop-step.invariant.long c.loop-step.invariant.capacity c.in_err-put_step.ensures.room)
