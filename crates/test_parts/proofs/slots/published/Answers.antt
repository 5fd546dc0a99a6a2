use Rattle.std.proofs.Common.{refl, ap, arith, ◌∙◌}
use Rattle.std.proofs.lemmas.Result.{on_ok_weaker}
use Rattle.ip_control.specs.Live.{live_of}
use Rattle.test_parts.proofs.Beginning.{ready, newer}
use Rattle.test_parts.proofs.slots.published.Goals as goal

pub returns : goal.returns
returns c blank reaches spare newer_than =
    let writes = c.in_ok-write.ensures.does refl (omega arith) in
    let syncs = c.in_ok-sync.ensures.does refl in
    let prepares = c.in_ok-prepare.ensures.does refl (ready c.args.file.now _ _ _ blank writes syncs 1 reaches spare) (newer c.args.file.now _ _ _ blank writes syncs c.args.fields.now.sequence newer_than) in
    on_ok_weaker c.open_gate.result (λ is. ap live_of is ∙ prepares.next) (c.open_gate.ensures.does refl prepares.ok).opens
