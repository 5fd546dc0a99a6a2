use Rattle.std.proofs.Common.{List, [], ◌∷◌, refl, subst, sym}
use Rattle.ip_spec.specs.Step.{new_commit}
use Rattle.ip_spec.specs.declared.reply.Reply.{Reply}
use Rattle.ip_spec.specs.declared.reply.Reply.TheVariants as Reply
use Rattle.ip_model.specs.declared.commits.Commit.{Commit}
use Rattle.ip_model.specs.Commits.{IsNext}
use Rattle.ip_model.proofs.MergeSteps.{merge_made, merge_refused, both_few, both_low}
use Rattle.ip_model.proofs.machine.Machine.add_merge.Goals as goal

pub returns-in_ok-keep_tree-in-Committed : goal.returns-in_ok-keep_tree-in-Committed
returns-in_ok-keep_tree-in-Committed c s t same small good high low is =
    let m = c.args.self.now in
    let r = s.repository in
    let info = c.args.info in
    let n = c.args.number in
    let h = c.args.head in
    let root = c.in_ok-root.ensures t small same in
    let next = c.in_ok-existing.ensures r t good (both_few n h) (both_low m s is n h low high) root is.commits in
    let made = subst (λ (reply : Reply). IsNext r (new_commit r t (h ∷ n ∷ []) info) reply c.commit.new.self) c.in-Committed.is next in
    let kept = subst (λ (cs : List Commit). IsNext r (new_commit r t (h ∷ n ∷ []) info) (Reply.Committed c.in-Committed.name) cs) (sym c.keep_tree.ensures.commits) made in
    merge_made m s is n c.args.branch h info t c.keep_tree.new.self c.in-Committed.name c.len.result c.args.tree same kept c.len.ensures
    c.in_ok-keep_tree-in-Committed.ensures.trees c.in_ok-keep_tree-in-Committed.ensures.branches c.in_ok-keep_tree-in-Committed.ensures.work

pub returns-in_default : goal.returns-in_default
returns-in_default c s t same small good high low is =
    let m = c.args.self.now in
    let n = c.args.number in
    let h = c.args.head in
    let root = c.in_ok-root.ensures t small same in
    let next = c.in_ok-existing.ensures s.repository t good (both_few n h) (both_low m s is n h low high) root is.commits in
    merge_refused m s is n c.args.branch h c.args.info t _ c.in_ok-existing.existing next c.in_default.not-Committed refl refl refl
