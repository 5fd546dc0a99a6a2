use Rattle.std.proofs.Common.{sym, ◌∙◌}
use Rattle.ip_model.proofs.Resolved.{resolved_low}
use Rattle.ip_model.proofs.MergeSteps.{commit_found, commit_missing}
use Rattle.ip_model.proofs.machine.Machine.merge.Goals as goal

pub returns-in-Ok : goal.returns-in-Ok
returns-in-Ok g c s sound good one is =
    let n = c.in-Ok.number in
    let found = sym c.in-Ok.is ∙ c.in_ok-number.ensures s is in
    commit_found (g.D.Decides.rule c.args.rules.now) s c.args.target.now c.args.branch c.args.info _ n found c.merge_commit.result
    (c.merge_commit.ensures s sound good one (resolved_low s.repository sound.repository c.args.target.now n (sym found)) is)

pub returns-in-Err : goal.returns-in-Err
returns-in-Err g c s sound good one is = commit_missing (g.D.Decides.rule c.args.rules.now) s c.args.target.now c.args.branch c.args.info c.args.self.now c.in-Err.reply (sym c.in-Err.is ∙ c.in_ok-number.ensures s is) is
