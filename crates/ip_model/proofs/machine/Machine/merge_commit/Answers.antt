use Rattle.std.proofs.Common.{sym, ◌∙◌}
use Rattle.ip_model.proofs.MergeSteps.{head_found, head_missing, head_below}
use Rattle.ip_model.proofs.machine.Machine.merge_commit.Goals as goal

pub returns-in-Ok : goal.returns-in-Ok
returns-in-Ok g c s sound good one low is =
    let found = sym c.in-Ok.is ∙ c.in_ok-head.ensures in
    head_found (g.D.Decides.rule c.args.rules.now) s c.args.number c.args.branch c.args.info c.args.self.now _ is c.in-Ok.head found c.merge_into.result
    (c.merge_into.ensures s sound good one (head_below c.args.self.now s is sound.repository c.args.branch c.in-Ok.head found) low is)

pub returns-in-Err : goal.returns-in-Err
returns-in-Err g c s sound good one low is = head_missing (g.D.Decides.rule c.args.rules.now) s c.args.number c.args.branch c.args.info c.args.self.now is c.in-Err.reply (sym c.in-Err.is ∙ c.in_ok-head.ensures)
