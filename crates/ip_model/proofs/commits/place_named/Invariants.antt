use Rattle.std.proofs.Common.{◌≡◌, drop}
use Rattle.std.specs.List.{position_from}
use Rattle.ip_spec.specs.Path.{same_bytes}
use Rattle.ip_model.specs.declared.commits.Commit.{Commit}
use Rattle.ip_model.proofs.commits.place_named.Given as goal

abbrev pub invariant-loop-i : goal.invariant-loop-i
invariant-loop-i l = position_from (λ (m : Commit). same_bytes m.name l.name) l.i (drop l.i l.commits) ≡ position_from (λ (m : Commit). same_bytes m.name l.name) 0 l.commits
