use Rattle.std.proofs.Common.{sym, ◌∙◌}
use Rattle.ip_model.proofs.MergeSteps.{current, forwards, joins}
use Rattle.ip_model.proofs.machine.Machine.merge_into.Goals as goal

pub returns-then-branch : goal.returns-then-branch
returns-then-branch g c s sound good one high low is =
    current (g.D.Decides.rule c.args.rules.now) s c.args.number c.args.branch c.args.head c.args.info c.args.self.now is high
    (sym (c.in_ok-is_ancestor.ensures s.repository sound.repository is.commits) ∙ c.if-branch.true) c.name_of.result c.name_of.ensures

pub returns-then-branch-2 : goal.returns-then-branch-2
returns-then-branch-2 g c s sound good one high low is =
    forwards (g.D.Decides.rule c.args.rules.now) s c.args.number c.args.branch c.args.head c.args.info
    (sym (c.in_ok-is_ancestor.ensures s.repository sound.repository is.commits) ∙ c.if-branch.false)
    (sym (c.in_ok-is_ancestor-2.ensures s.repository sound.repository is.commits) ∙ c.if-branch-2.true) _ c.forward.result (c.forward.ensures s low is)

pub returns : goal.returns
returns g c s sound good one high low is =
    joins (g.D.Decides.rule c.args.rules.now) s c.args.number c.args.branch c.args.head c.args.info
    (sym (c.in_ok-is_ancestor.ensures s.repository sound.repository is.commits) ∙ c.if-branch.false)
    (sym (c.in_ok-is_ancestor-2.ensures s.repository sound.repository is.commits) ∙ c.if-branch-2.false) _ c.join.result (c.join.ensures s sound good one high low is)
