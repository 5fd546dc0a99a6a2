use Rattle.std.proofs.Common.{◌≡◌, ◌++◌, drop}
use Rattle.std.specs.Prelude.{not}
use Rattle.std.specs.FinMap.Entries.{where_key}
use Rattle.ip_spec.specs.Path.{bytes_cmp, same_bytes}
use Rattle.ip_model.proofs.machine.without.Given as goal

abbrev pub invariant-loop-branch : goal.invariant-loop-branch
invariant-loop-branch l = l.kept.items ++ where_key bytes_cmp (λ q. not (same_bytes l.name q)) (drop l.branch-index l.branches) ≡ where_key bytes_cmp (λ q. not (same_bytes l.name q)) l.branches
