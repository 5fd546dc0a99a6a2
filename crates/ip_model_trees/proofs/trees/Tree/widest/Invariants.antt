use Rattle.std.proofs.Common.{◌≡◌, ℕ, drop}
use Rattle.std.specs.Prelude.{fold}
use Rattle.ip_spec.specs.Path.{Path, Bytes}
use Rattle.ip_spec.specs.Tree.{Tree, ways}
use Rattle.ip_model_trees.proofs.PartLaws.{wider}
use Rattle.ip_model_trees.proofs.trees.Tree.widest.Given as goal

abbrev pub invariant-loop-part : goal.invariant-loop-part
invariant-loop-part l = (t : Tree) → l.self ≡ t.entries → fold (λ (n : ℕ) (e : Path × Bytes). fold (wider t) n (ways e.0)) l.widest (drop l.part-index l.part-items) ≡ fold (λ (n : ℕ) (e : Path × Bytes). fold (wider t) n (ways e.0)) 0 l.part-items
