use Rattle.std.proofs.Common.{◌≡◌, drop}
use Rattle.std.specs.Prelude.{fold}
use Rattle.ip_spec.specs.Tree.{Tree, ways}
use Rattle.ip_model_trees.proofs.PartLaws.{wider}
use Rattle.ip_model_trees.proofs.trees.Tree.widest_on.Given as goal

abbrev pub invariant-loop-n : goal.invariant-loop-n
invariant-loop-n l = (t : Tree) → l.self ≡ t.entries → fold (wider t) l.widest (drop l.n (ways l.path)) ≡ fold (wider t) l.before (ways l.path)
