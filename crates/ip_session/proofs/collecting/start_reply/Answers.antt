use Rattle.std.proofs.Common.{rules, ◌≡◌, subst, Err}
use Rattle.ip_collects.specs.declared.starting.CollectFault.TheVariants as CollectFault
use Rattle.ip_session.specs.Starting.{IsFound}
use Rattle.ip_session.proofs.collecting.start_reply.Goals as goal

pub held_reply-requires : goal.held_reply-requires
held_reply-requires c =
    let (r, found) = c.requires in
    let is : c.args.begun.now ≡ Err (CollectFault.Held c.in-Err-Held.place) = search rules in
    let there = subst (IsFound r c.args.store.now.held) is found in
    (r, there.0, there.1)
