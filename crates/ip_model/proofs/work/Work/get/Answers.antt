use Rattle.std.proofs.Common.{◌≡◌, ap, sym, ◌∙◌}
use Rattle.ip_spec.specs.Step.{got_reply}
use Rattle.ip_model.proofs.WorkLaws.{get_done}
use Rattle.ip_model.proofs.work.Work.get.Goals as goal

pub returns : goal.returns
returns c s floor is =
    let reply : c.got_reply.result ≡ got_reply _ = c.got_reply.ensures ∙ ap got_reply (c.in_ok-got.ensures s.work.tree is.tree) in
    (s.work, is, get_done s floor c.args.path.now ∙ ap (λ x. (x, s)) (sym reply))
