use Rattle.std.proofs.Common.{◌≡◌, map, take}
use Rattle.ip_spec.specs.declared.record.Parent.{Parent}
use Rattle.ip_model.specs.declared.commits.Commit.{Commit}
use Rattle.ip_model.proofs.commits.Commits.history.Given as goal

abbrev pub invariant-loop-commit : goal.invariant-loop-commit
invariant-loop-commit l = l.lists.items ≡ map (λ (m : Commit). map (λ (p : Parent). p.number) m.parents) (take l.commit-index l.commit-items)
