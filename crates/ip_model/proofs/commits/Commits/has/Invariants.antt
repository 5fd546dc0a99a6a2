use Rattle.std.proofs.Common.{◌≡◌, false, take}
use Rattle.std.specs.List.{list_any}
use Rattle.ip_spec.specs.Path.{same_bytes}
use Rattle.ip_model.specs.declared.commits.Commit.{Commit}
use Rattle.ip_model.proofs.commits.Commits.has.Given as goal

abbrev pub invariant-loop-commit : goal.invariant-loop-commit
invariant-loop-commit l = list_any (λ (c : Commit). same_bytes c.name l.name) (take l.commit-index l.commit-items) ≡ false
