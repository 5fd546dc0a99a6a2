use Rattle.std.proofs.Common.{◌≡◌, [], ◌∷◌, false, length, refl}
use Rattle.std.specs.Prelude.{◌==◌, IsFalse}
use Rattle.ip_spec.specs.Path.{Path}
use Rattle.ip_spec.specs.View.{is_nil}
use Rattle.ip_tree.proofs.tree.Tree.some_at.Goals as goal

some_steps : (p : Path) → false ≡ (length p == 0) → IsFalse (is_nil p)
some_steps [] e = absurd cc
some_steps (s ∷ p) e = refl

pub returns-clause-part : goal.returns-clause-part
returns-clause-part g c tells records w over is = c.at.ensures.part tells records w over is (some_steps c.args.path.now c.if-is_empty.ensures)
