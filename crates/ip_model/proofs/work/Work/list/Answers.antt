use Rattle.std.proofs.Common.{◌≡◌, ap, sym, ◌∙◌}
use Rattle.ip_spec.specs.Step.{listed_reply}
use Rattle.ip_model.proofs.WorkLaws.{list_done}
use Rattle.ip_model.proofs.work.Work.list.Goals as goal

pub returns : goal.returns
returns c s floor is =
    let reply : c.listed_reply.result ≡ listed_reply _ = c.listed_reply.ensures ∙ ap listed_reply (c.in_ok-listed.ensures s.work.tree is.tree) in
    (s.work, is, list_done s floor c.args.path.now ∙ ap (λ x. (x, s)) (sym reply))
