use Rattle.std.proofs.Common.{◌≡◌, ◌++◌, take}
use Rattle.ip_model_trees.proofs.trees.joined.Given as goal

abbrev pub invariant-loop-step : goal.invariant-loop-step
invariant-loop-step l = l.all ≡ take l.step-index l.path

abbrev pub invariant-loop-step-2 : goal.invariant-loop-step-2
invariant-loop-step-2 l = l.all ≡ l.path ++ take l.step-index l.behind
