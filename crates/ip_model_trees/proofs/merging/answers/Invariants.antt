use Rattle.std.proofs.Common.{◌≡◌, map, take, All}
use Rattle.ip_spec.specs.Path.{Path, Bytes}
use Rattle.ip_model_trees.specs.Merging.{Answer, IsDecided}
use Rattle.ip_model_trees.proofs.merging.answers.Given as goal

abbrev pub invariant-loop-part : goal.invariant-loop-part
invariant-loop-part g l = record {
  paths : map (λ (e : Answer). e.0) l.answers.items ≡ map (λ (e : Path × Bytes). e.0) (take l.part-index l.part-items);
  decided : All (λ (e : Answer). IsDecided (g.D.Decides.rule l.rules) l.base l.left l.right e.0 e.1) l.answers.items;
}
