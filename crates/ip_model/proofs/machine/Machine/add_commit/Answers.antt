use Rattle.std.proofs.Common.{List, refl, subst, sym, ◌∙◌, ℕ}
use Rattle.ip_spec.specs.Step.{new_commit}
use Rattle.ip_spec.specs.declared.reply.Reply.{Reply}
use Rattle.ip_model.specs.declared.commits.Commit.{Commit}
use Rattle.ip_model.specs.Commits.{IsNext}
use Rattle.ip_model.proofs.BranchLaws.{commit_made, commit_refused, parents_few, parents_low}
use Rattle.ip_model.proofs.machine.Machine.add_commit.Goals as goal

pub returns-in_ok-keep_work-in-Committed : goal.returns-in_ok-keep_work-in-Committed
returns-in_ok-keep_work-in-Committed c s sound good is =
    let m = c.args.self.now in
    let r = s.repository in
    let info = c.args.info in
    let ps = c.as_slice.result.now in
    let root = c.in_ok-root.ensures s.work.tree sound.tree is.work.tree in
    let next = c.in_ok-existing.ensures r s.work.tree good (parents_few m s is sound ps c.as_slice.ensures) (parents_low m s is sound ps c.as_slice.ensures) root is.commits in
    let same = subst (λ (ns : List ℕ). IsNext r (new_commit r s.work.tree ns info) c.in_ok-existing.existing c.commit.new.self) (c.as_slice.ensures ∙ is.work.parents) next in
    let made = subst (λ (reply : Reply). IsNext r (new_commit r s.work.tree s.work.parents info) reply c.commit.new.self) c.in-Committed.is same in
    let kept = subst (λ (cs : List Commit). IsNext r (new_commit r s.work.tree s.work.parents info) (Reply.Committed c.in-Committed.name) cs) (sym c.keep_work.ensures.commits) made in
    commit_made m s is c.args.branch info c.keep_work.new.self c.in-Committed.name c.len.result kept c.len.ensures
    c.in_ok-keep_work-in-Committed.ensures.trees c.in_ok-keep_work-in-Committed.ensures.branches c.in_ok-keep_work-in-Committed.ensures.work

pub returns-in_default : goal.returns-in_default
returns-in_default c s sound good is =
    let m = c.args.self.now in
    let r = s.repository in
    let info = c.args.info in
    let ps = c.as_slice.result.now in
    let root = c.in_ok-root.ensures s.work.tree sound.tree is.work.tree in
    let next = c.in_ok-existing.ensures r s.work.tree good (parents_few m s is sound ps c.as_slice.ensures) (parents_low m s is sound ps c.as_slice.ensures) root is.commits in
    let same = subst (λ (ns : List ℕ). IsNext r (new_commit r s.work.tree ns info) c.in_ok-existing.existing c.commit.new.self) (c.as_slice.ensures ∙ is.work.parents) next in
    commit_refused m s is c.args.branch info _ c.in_ok-existing.existing same c.in_default.not-Committed refl refl refl
