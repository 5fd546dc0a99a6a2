use Rattle.std.proofs.Common.{◌≡◌, ℕ, map, take}
use Rattle.ip_spec.specs.Path.{Bytes}
use Rattle.ip_model.specs.Commits.{name_in}
use Rattle.ip_model.proofs.machine.Machine.heads.Given as goal

abbrev pub invariant-loop-branch : goal.invariant-loop-branch
invariant-loop-branch l = l.heads ≡ map (λ (e : Bytes × ℕ). record { branch = e.0; name = name_in l.self.commits e.1 }) (take l.branch-index l.branch-items)
