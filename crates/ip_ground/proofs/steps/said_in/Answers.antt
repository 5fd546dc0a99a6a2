use Rattle.std.proofs.Common.{[], ◌∷◌, ◌++◌, take, sym, ◌∙◌, ap}
use Rattle.std.proofs.lemmas.List.{take_more}
use Rattle.ip_ground.proofs.Replays.{said_more}
use Rattle.ip_ground.proofs.steps.said_in.Goals as goal

pub loop-event-preserved : goal.loop-event-preserved
loop-event-preserved c =
    let i = c.loop-event.event-index in
    let event = c.event-item.result in
    let more = take_more c.args.log.now i event c.loop-event-test.true ∙ ap (λ e. take i c.args.log.now ++ e ∷ []) (sym c.event-item.is) in
    said_more (take i c.args.log.now) _ event c.loop-event.out.items _ more c.loop-event.invariant c.in_ok-say_again.ensures
