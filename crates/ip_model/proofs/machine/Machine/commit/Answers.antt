use Rattle.std.proofs.Common.{sym, ◌∙◌}
use Rattle.ip_model.specs.Working.{commit_after}
use Rattle.ip_model.proofs.MachineLaws.{turned_so}
use Rattle.ip_model.proofs.BranchLaws.{commit_moved, commit_full, commit_goes}
use Rattle.ip_model.proofs.machine.Machine.commit.Goals as goal

pub returns-in-Some : goal.returns-in-Some
returns-in-Some c s sound good is =
    commit_moved c.args.self.now s is c.args.branch c.args.info sound.repository c.in-Some.number (sym c.in-Some.is ∙ c.moved_head.ensures) c.name_of.result c.name_of.ensures

pub returns-then-is_full : goal.returns-then-is_full
returns-then-is_full c s sound good is =
    commit_full c.args.self.now s is c.args.branch c.args.info (sym c.in_default.is ∙ c.moved_head.ensures) c.is_full.result c.is_full.ensures c.if-is_full.true

pub returns : goal.returns
returns c s sound good is =
    turned_so _ c.add_commit.result _ (commit_after s c.args.branch c.args.info)
    (commit_goes c.args.self.now s is c.args.branch c.args.info (sym c.in_default.is ∙ c.moved_head.ensures) c.is_full.result c.is_full.ensures c.if-is_full.false) (c.add_commit.ensures s sound good is)
