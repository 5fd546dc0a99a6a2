use Rattle.std.proofs.Common.{◌≡◌, length, drop}
use Rattle.std.specs.Prelude.{fold, max}
use Rattle.ip_model_trees.proofs.trees.Tree.longest.Given as goal

abbrev pub invariant-loop-part : goal.invariant-loop-part
invariant-loop-part l = fold (λ n e. max n (length e.1)) l.longest (drop l.part-index l.part-items) ≡ fold (λ n e. max n (length e.1)) 0 l.part-items
