use Rattle.std.proofs.Common.{◌≡◌, false, refl, sym, ap, subst, ◌∙◌}
use Rattle.sha2.specs.Sha256.{sha256}
use Rattle.ip_spec.specs.declared.command.Command.TheVariants as Command
use Rattle.ip_spec.specs.declared.reply.Reply.TheVariants as Reply
use Rattle.ip_session.specs.Asking.{AsksNoGround, TellsNone}
use Rattle.ip_session.proofs.Asking.{none_met}
use Rattle.ip_session.proofs.Reading.{empty_answered, hash_answered, stat_answered}
use Rattle.ip_session.proofs.Running.{ran_within, ran_read, ran_plain, ran_durable, ran_child}
use Rattle.ip_session.proofs.session.Session.run.Goals as goal

-- ---- it asks nothing of the ground

pub returns-in-Empty-clause-ran : goal.returns-in-Empty-clause-ran
returns-in-Empty-clause-ran g c = ran_within c.args.command Command.Empty Reply.Accepted c.in-Empty.is tt refl c.requires.met c.requires.tables c.requires.child
    (λ r is. (is.0, c.empty.ensures.parents r)) refl (λ records r v of l. empty_answered records c.args.self.now r v of l c.empty.result _ c.requires.met (c.empty.ensures.lawful records r) c.empty.ensures.begins) tt (none_met c.args.self.now.met false c.requires.met) (λ r is e. absurd (cc e))

pub returns-in-Parent-clause-ran : goal.returns-in-Parent-clause-ran
returns-in-Parent-clause-ran g c = ran_within c.args.command (Command.Parent c.in-Parent.target) c.parent.result c.in-Parent.is tt refl c.requires.met c.requires.tables c.requires.child
    c.parent.ensures.tables c.parent.ensures.same_store c.parent.ensures.answered c.parent.ensures.tells_none c.parent.ensures.meets_none c.parent.ensures.memory

pub returns-in-Branches-clause-ran : goal.returns-in-Branches-clause-ran
returns-in-Branches-clause-ran g c = ran_within c.args.command Command.Branches c.branches.result c.in-Branches.is tt refl c.requires.met c.requires.tables c.requires.child
    c.branches.ensures.tables c.branches.ensures.same_store c.branches.ensures.answered c.branches.ensures.tells_none c.branches.ensures.meets_none (λ r is e. tt)

pub returns-in-Log-clause-ran : goal.returns-in-Log-clause-ran
returns-in-Log-clause-ran g c = ran_within c.args.command (Command.Log c.in-Log.target) c.log.result c.in-Log.is tt refl c.requires.met c.requires.tables c.requires.child
    c.log.ensures.tables c.log.ensures.same_store c.log.ensures.answered c.log.ensures.tells_none c.log.ensures.meets_none c.log.ensures.memory

pub returns-in-Lcas-clause-ran : goal.returns-in-Lcas-clause-ran
returns-in-Lcas-clause-ran g c = ran_within c.args.command (Command.Lcas c.in-Lcas.one c.in-Lcas.other) c.lcas.result c.in-Lcas.is tt refl c.requires.met c.requires.tables c.requires.child
    c.lcas.ensures.tables c.lcas.ensures.same_store c.lcas.ensures.answered c.lcas.ensures.tells_none c.lcas.ensures.meets_none c.lcas.ensures.memory

pub returns-in-Hash-clause-ran : goal.returns-in-Hash-clause-ran
returns-in-Hash-clause-ran g c = ran_within c.args.command (Command.Hash c.in-Hash.bytes) (Reply.Hash c.digest.result) c.in-Hash.is tt refl c.requires.met c.requires.tables c.requires.child
    (λ r is. is) refl (λ records r v of l. hash_answered records c.args.self.now r v of l _ c.in-Hash.bytes c.digest.result c.requires.met (c.digest.ensures ∙ ap sha256 c.as_slice.ensures)) tt (none_met c.args.self.now.met false c.requires.met) (λ r is e. tt)

pub returns-in-Stat-clause-ran : goal.returns-in-Stat-clause-ran
returns-in-Stat-clause-ran g c = ran_within c.args.command Command.Stat c.stat.result c.in-Stat.is tt refl c.requires.met c.requires.tables c.requires.child
    (λ r is. is) refl (λ records r v of l. stat_answered records c.args.self.now r v of l _ c.stat.result c.requires.met (c.stat.ensures r of)) (let (r, is) = c.requires.tables in subst TellsNone (sym (c.stat.ensures r is.0)) tt) (none_met c.args.self.now.met false c.requires.met) (λ r is e. let told : c.stat.result ≡ Reply.Memory = cc e in absurd (cc (sym told ∙ c.stat.ensures r is.0)))

-- ---- it reads records

pub returns-in-Checkout-clause-ran : goal.returns-in-Checkout-clause-ran
returns-in-Checkout-clause-ran g c = ran_read c.args.command (Command.Checkout c.in-Checkout.target) c.in-Checkout.is tt refl c.requires.met c.requires.tables c.requires.child c.checkout.ensures.reads c.checkout.ensures.cause c.checkout.ensures.tells_none c.checkout.ensures.meets_none c.checkout.ensures.same_collection c.checkout.ensures.counts c.checkout.ensures.memory (λ _ asks. asks)

pub returns-in-Set-clause-ran : goal.returns-in-Set-clause-ran
returns-in-Set-clause-ran g c = ran_read c.args.command (Command.Set c.in-Set.path c.in-Set.contents) c.in-Set.is tt refl c.requires.met c.requires.tables c.requires.child c.set.ensures.reads c.set.ensures.cause c.set.ensures.tells_none c.set.ensures.meets_none c.set.ensures.same_collection c.set.ensures.counts (λ r is e. tt) (λ _ asks. asks)

pub returns-in-Rm-clause-ran : goal.returns-in-Rm-clause-ran
returns-in-Rm-clause-ran g c = ran_read c.args.command (Command.Rm c.in-Rm.path) c.in-Rm.is tt refl c.requires.met c.requires.tables c.requires.child c.remove.ensures.reads c.remove.ensures.cause c.remove.ensures.tells_none c.remove.ensures.meets_none c.remove.ensures.same_collection c.remove.ensures.counts (λ r is e. tt) (λ _ asks. asks)

pub returns-in-Graft-clause-ran : goal.returns-in-Graft-clause-ran
returns-in-Graft-clause-ran g c = ran_read c.args.command (Command.Graft c.in-Graft.target c.in-Graft.from c.in-Graft.to) c.in-Graft.is tt refl c.requires.met c.requires.tables c.requires.child c.graft.ensures.reads c.graft.ensures.cause c.graft.ensures.tells_none c.graft.ensures.meets_none c.graft.ensures.same_collection c.graft.ensures.counts (λ r is e. tt) (λ _ asks. asks)

pub returns-in-Get-clause-ran : goal.returns-in-Get-clause-ran
returns-in-Get-clause-ran g c = ran_read c.args.command (Command.Get c.in-Get.path) c.in-Get.is tt refl c.requires.met c.requires.tables c.requires.child c.get.ensures.reads c.get.ensures.cause c.get.ensures.tells_none c.get.ensures.meets_none c.get.ensures.same_collection c.get.ensures.counts (λ r is e. tt) (λ _ asks. asks)

pub returns-in-List-clause-ran : goal.returns-in-List-clause-ran
returns-in-List-clause-ran g c = ran_read c.args.command (Command.List c.in-List.path) c.in-List.is tt refl c.requires.met c.requires.tables c.requires.child c.list.ensures.reads c.list.ensures.cause c.list.ensures.tells_none c.list.ensures.meets_none c.list.ensures.same_collection c.list.ensures.counts (λ r is e. tt) (λ _ asks. asks)

pub returns-in-Cat-clause-ran : goal.returns-in-Cat-clause-ran
returns-in-Cat-clause-ran g c = ran_read c.args.command (Command.Cat c.in-Cat.target c.in-Cat.path) c.in-Cat.is tt refl c.requires.met c.requires.tables c.requires.child c.cat.ensures.reads c.cat.ensures.cause c.cat.ensures.tells_none c.cat.ensures.meets_none c.cat.ensures.same_collection c.cat.ensures.counts (λ r is e. tt) (λ _ asks. asks)

pub returns-in-Show-clause-ran : goal.returns-in-Show-clause-ran
returns-in-Show-clause-ran g c = ran_read c.args.command (Command.Show c.in-Show.target) c.in-Show.is tt refl c.requires.met c.requires.tables c.requires.child c.show.ensures.reads c.show.ensures.cause c.show.ensures.tells_none c.show.ensures.meets_none c.show.ensures.same_collection c.show.ensures.counts c.show.ensures.memory (λ _ asks. asks)

-- ---- it may change files

pub returns-in-Commit-clause-ran : goal.returns-in-Commit-clause-ran
returns-in-Commit-clause-ran g c = ran_durable c.args.command (Command.Commit c.in-Commit.branch c.in-Commit.info) c.in-Commit.is tt tt c.requires.child c.commit.ensures.runs c.commit.ensures.tells_none c.commit.ensures.meets_none c.commit.ensures.same_collection c.commit.ensures.counts (λ r is e. tt) (λ failed. (c.commit.ensures.unanswered failed, λ asks. asks))

pub returns-in-Merge-clause-ran : goal.returns-in-Merge-clause-ran
returns-in-Merge-clause-ran g c = ran_plain c.args.command (Command.Merge c.in-Merge.target c.in-Merge.branch c.in-Merge.info) c.in-Merge.is tt c.requires.child c.merge.ensures.runs c.merge.ensures.tells_none c.merge.ensures.meets_none c.merge.ensures.same_collection c.merge.ensures.counts (λ r is e. tt) (λ failed. (c.merge.ensures.unanswered failed, λ asks. asks))

pub returns-in-Branch-clause-ran : goal.returns-in-Branch-clause-ran
returns-in-Branch-clause-ran g c = ran_durable c.args.command (Command.Branch c.in-Branch.name c.in-Branch.target) c.in-Branch.is tt tt c.requires.child c.set_branch.ensures.runs c.set_branch.ensures.tells_none c.set_branch.ensures.meets_none c.set_branch.ensures.same_collection c.set_branch.ensures.counts (λ r is e. tt) (λ failed. (c.set_branch.ensures.unanswered failed, λ asks. asks))

pub returns-in-BranchRm-clause-ran : goal.returns-in-BranchRm-clause-ran
returns-in-BranchRm-clause-ran g c = ran_durable c.args.command (Command.BranchRm c.in-BranchRm.name) c.in-BranchRm.is tt tt c.requires.child c.remove_branch.ensures.runs c.remove_branch.ensures.tells_none c.remove_branch.ensures.meets_none c.remove_branch.ensures.same_collection c.remove_branch.ensures.counts (λ r is e. tt) (λ failed. (c.remove_branch.ensures.unanswered failed, λ asks. asks))

-- ---- it speaks to the child of a collection

pub returns-in-Collect-clause-ran : goal.returns-in-Collect-clause-ran
returns-in-Collect-clause-ran g c = ran_child c.args.command (Command.Collect c.in-Collect.target) c.in-Collect.is tt c.collect.ensures

pub returns-in-Look-clause-ran : goal.returns-in-Look-clause-ran
returns-in-Look-clause-ran g c = ran_child c.args.command Command.Look c.in-Look.is tt (c.look.ensures c.args.dir.now)

pub returns-in-Finish-clause-ran : goal.returns-in-Finish-clause-ran
returns-in-Finish-clause-ran g c = ran_child c.args.command Command.Finish c.in-Finish.is tt (c.finish.ensures c.args.dir.now)

pub returns-in-Cancel-clause-ran : goal.returns-in-Cancel-clause-ran
returns-in-Cancel-clause-ran g c = ran_child c.args.command Command.Cancel c.in-Cancel.is tt (c.cancel.ensures c.args.dir.now)

-- ---- what asks nothing of the ground

pub returns-in-Empty-clause-still : goal.returns-in-Empty-clause-still
returns-in-Empty-clause-still g c asks = (refl, refl)

pub returns-in-Parent-clause-still : goal.returns-in-Parent-clause-still
returns-in-Parent-clause-still g c asks = (refl, refl)

pub returns-in-Branches-clause-still : goal.returns-in-Branches-clause-still
returns-in-Branches-clause-still g c asks = (refl, refl)

pub returns-in-Log-clause-still : goal.returns-in-Log-clause-still
returns-in-Log-clause-still g c asks = (refl, refl)

pub returns-in-Lcas-clause-still : goal.returns-in-Lcas-clause-still
returns-in-Lcas-clause-still g c asks = (refl, refl)

pub returns-in-Hash-clause-still : goal.returns-in-Hash-clause-still
returns-in-Hash-clause-still g c asks = (refl, refl)

pub returns-in-Stat-clause-still : goal.returns-in-Stat-clause-still
returns-in-Stat-clause-still g c asks = (refl, refl)

pub returns-in-Checkout-clause-still : goal.returns-in-Checkout-clause-still
returns-in-Checkout-clause-still g c asks = absurd (subst AsksNoGround c.in-Checkout.is asks)

pub returns-in-Set-clause-still : goal.returns-in-Set-clause-still
returns-in-Set-clause-still g c asks = absurd (subst AsksNoGround c.in-Set.is asks)

pub returns-in-Rm-clause-still : goal.returns-in-Rm-clause-still
returns-in-Rm-clause-still g c asks = absurd (subst AsksNoGround c.in-Rm.is asks)

pub returns-in-Graft-clause-still : goal.returns-in-Graft-clause-still
returns-in-Graft-clause-still g c asks = absurd (subst AsksNoGround c.in-Graft.is asks)

pub returns-in-Get-clause-still : goal.returns-in-Get-clause-still
returns-in-Get-clause-still g c asks = absurd (subst AsksNoGround c.in-Get.is asks)

pub returns-in-List-clause-still : goal.returns-in-List-clause-still
returns-in-List-clause-still g c asks = absurd (subst AsksNoGround c.in-List.is asks)

pub returns-in-Cat-clause-still : goal.returns-in-Cat-clause-still
returns-in-Cat-clause-still g c asks = absurd (subst AsksNoGround c.in-Cat.is asks)

pub returns-in-Show-clause-still : goal.returns-in-Show-clause-still
returns-in-Show-clause-still g c asks = absurd (subst AsksNoGround c.in-Show.is asks)

pub returns-in-Commit-clause-still : goal.returns-in-Commit-clause-still
returns-in-Commit-clause-still g c asks = absurd (subst AsksNoGround c.in-Commit.is asks)

pub returns-in-Merge-clause-still : goal.returns-in-Merge-clause-still
returns-in-Merge-clause-still g c asks = absurd (subst AsksNoGround c.in-Merge.is asks)

pub returns-in-Branch-clause-still : goal.returns-in-Branch-clause-still
returns-in-Branch-clause-still g c asks = absurd (subst AsksNoGround c.in-Branch.is asks)

pub returns-in-BranchRm-clause-still : goal.returns-in-BranchRm-clause-still
returns-in-BranchRm-clause-still g c asks = absurd (subst AsksNoGround c.in-BranchRm.is asks)

pub returns-in-Collect-clause-still : goal.returns-in-Collect-clause-still
returns-in-Collect-clause-still g c asks = absurd (subst AsksNoGround c.in-Collect.is asks)

pub returns-in-Look-clause-still : goal.returns-in-Look-clause-still
returns-in-Look-clause-still g c asks = absurd (subst AsksNoGround c.in-Look.is asks)

pub returns-in-Finish-clause-still : goal.returns-in-Finish-clause-still
returns-in-Finish-clause-still g c asks = absurd (subst AsksNoGround c.in-Finish.is asks)

pub returns-in-Cancel-clause-still : goal.returns-in-Cancel-clause-still
returns-in-Cancel-clause-still g c asks = absurd (subst AsksNoGround c.in-Cancel.is asks)
