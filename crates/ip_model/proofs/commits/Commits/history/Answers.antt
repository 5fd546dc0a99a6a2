use Rattle.std.proofs.Common.{ap, ◌∙◌, map}
use Rattle.ip_spec.specs.declared.record.Parent.{Parent}
use Rattle.ip_model.specs.declared.commits.Commit.{Commit}
use Rattle.ip_model_trees.proofs.Lists.{map_more}
use Rattle.ip_model.proofs.commits.Commits.history.Goals as goal

pub loop-commit-preserved : goal.loop-commit-preserved
loop-commit-preserved c =
    map_more (λ (m : Commit). map (λ (p : Parent). p.number) m.parents) c.deref-commit-items.result.now c.loop-commit.commit-index c.commit-item.result c.in_ok-numbers_of.field-0 c.loop-commit.lists.items c.push.new.self.items c.loop-commit-test.true c.commit-item.is
    (c.in_ok-numbers_of.ensures ∙ ap (map (λ (p : Parent). p.number)) c.as_slice.ensures) c.loop-commit.invariant c.in_ok-push.ensures.items
