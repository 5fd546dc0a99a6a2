use Rattle.std.proofs.Common.{◌≡◌, false, take}
use Rattle.std.specs.List.{list_any}
use Rattle.ip_model_trees.specs.Merging.{is_over}
use Rattle.ip_model_trees.proofs.merging.has_under.Given as goal

abbrev pub invariant-loop-other : goal.invariant-loop-other
invariant-loop-other l = list_any (is_over l.one) (take l.other-index l.answers) ≡ false
