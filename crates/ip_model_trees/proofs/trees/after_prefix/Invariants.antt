use Rattle.std.proofs.Common.{◌≡◌, drop}
use Rattle.ip_spec.specs.Path.{after_prefix}
use Rattle.ip_model_trees.proofs.trees.after_prefix.Given as goal

abbrev pub invariant-loop-step : goal.invariant-loop-step
invariant-loop-step l = after_prefix (drop l.step-index l.prefix) l.left ≡ after_prefix l.prefix l.path
