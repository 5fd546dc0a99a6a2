use Rattle.std.proofs.Common.{◌≡◌, drop}
use Rattle.std.specs.FinMap.Entries.{find}
use Rattle.ip_spec.specs.Path.{bytes_cmp}
use Rattle.ip_model.proofs.machine.number_of.Given as goal

abbrev pub invariant-loop-branch : goal.invariant-loop-branch
invariant-loop-branch l = find bytes_cmp l.name (drop l.branch-index l.branches) ≡ find bytes_cmp l.name l.branches
