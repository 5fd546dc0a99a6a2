use Rattle.std.proofs.Common.{◌≡◌, rules}
use Rattle.std.proofs.lemmas.Result.{on_ok_weaker}
use Rattle.ip_ground.proofs.steps.note_said.Goals as goal

pub returns-clause-ok : goal.returns-clause-ok
returns-clause-ok c =
    let same : c.in_ok-copy.copy.items ≡ c.args.bytes.now = search rules in
    on_ok_weaker c.note.result (λ is. (c.in_ok-copy.copy, same, is)) c.note.ensures.ok
