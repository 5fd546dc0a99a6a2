use Rattle.std.proofs.Common.{sym, ◌∙◌}
use Rattle.std.specs.Prelude.{Ok, Err}
use Rattle.ip_model.specs.Working.{checkout_after}
use Rattle.ip_model.proofs.MachineLaws.{turned_so}
use Rattle.ip_model.proofs.Resolved.{resolved_low}
use Rattle.ip_model.proofs.CheckedOut.{checkout_by}
use Rattle.ip_model.proofs.machine.Machine.checkout.Goals as goal

pub returns-in-Ok : goal.returns-in-Ok
returns-in-Ok c s good is =
    let n = c.in-Ok.number in
    let found = sym c.in-Ok.is ∙ c.in_ok-number.ensures s is in
    turned_so _ c.check_out.result _ (checkout_after s n) (checkout_by s c.args.target.now (Ok n) found)
    (c.check_out.ensures s (resolved_low s.repository good c.args.target.now n (sym found)) is)

pub returns-in-Err : goal.returns-in-Err
returns-in-Err c s good is = (s, is, checkout_by s c.args.target.now (Err c.in-Err.reply) (sym c.in-Err.is ∙ c.in_ok-number.ensures s is))
